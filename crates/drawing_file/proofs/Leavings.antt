-- What a call leaves that draws nothing, and how figures are numbered.
use Rattle.std.proofs.Common.{◌≡◌, ℕ, ◌+◌, ◌-◌, ◌<◌, ◌≤◌, Bool, true, false, cond, List, length, Some, None, Ok, Err, Option, Result, sym, refl, ap, ◌∙◌, subst, arith}
use Rattle.std.proofs.lemmas.List.{nil_from_length}
use Rattle.emath.specs.Answers.{Answer, accepted, refused}
use Rattle.ecolor.specs.Colors.{is_transparent}
use Rattle.tessellator.specs.Outcome.{Outcome}
use Rattle.tessellator.specs.declared.fault.Appended.{Appended}
use Rattle.drawing_file.specs.Faults.{Cause, heard}
use Rattle.drawing_file.specs.Format.{First, Item, line, paint, first_of}
use Rattle.drawing_file.specs.Laws.{Undrawn, Leaves}
use Rattle.drawing_file.specs.Replaced.{Replaced, replaced}
use Rattle.drawing_file.specs.Runs.{RunState, Then, answered, Halt, after_line, after_stroke, stroked, faulted, painted, stepped, after_step, after_reading, first_run, turn, along, first_figure, at_byte}
use Rattle.drawing_file.specs.Solids.{solid_outcome}
use Rattle.drawing_file.specs.Values.{paint_of}
use Rattle.drawing_file.specs.declared.decode.Paint.{Paint}
use Rattle.drawing_file.specs.declared.fault.FileFault.TheVariants.{FilledOpenLine}
use Rattle.drawing_file.specs.declared.fault.Layer.TheVariants as layer
use Rattle.drawing_file.specs.declared.runner.Figure.{Figure}
use Rattle.drawing_file.specs.declared.runner.Waiting.{Waiting}
use Rattle.drawing_file.specs.declared.runner.Waiting.TheVariants.{Nothing, OpenLine}
use Rattle.drawing_file.proofs.Lists.{same_size}
use Rattle.drawing_file.proofs.Strokes.{Spared, refusal_spares}
use Rattle.drawing_file.proofs.Turns.{Kept, step_keeps, shrinks, all_along}

-- the mesh is as it was, unless a figure was drawn
abbrev Spares : Result (Option Appended) Cause → RunState → RunState → Type 0
Spares (Ok None) s t = t.mesh ≡ s.mesh
Spares (Ok (Some size)) s t = Unit {0}
Spares (Err why) s t = t.mesh ≡ s.mesh

line_spares : (r : Result (Unit {0}) Cause) (s : RunState) (l : Replaced) → Spares (after_line r s l).answer s (after_line r s l).state
line_spares (Ok t) s l = refl
line_spares (Err why) s l = refl

stroke_spares : (a : Answer Appended) (s : RunState) (o : Outcome) → Spared a s.mesh o.mesh → Spares (after_stroke (heard layer.Figure a) s o).answer s (after_stroke (heard layer.Figure a) s o).state
stroke_spares (accepted size) s o h = tt
stroke_spares (refused n values) s o h = h

open_spares : (b : Bool) (s : RunState) (o : Outcome) → Spared o.answer s.mesh o.mesh → Spares (cond b (stroked s o) (faulted FilledOpenLine s)).answer s (cond b (stroked s o) (faulted FilledOpenLine s)).state
open_spares true s o h = stroke_spares o.answer s o h
open_spares false s o h = refl

paint_spares : (w : Waiting) (s : RunState) (p : Paint) → Spares (painted w s p).answer s (painted w s p).state
paint_spares Nothing s p = refl
paint_spares OpenLine s p = open_spares (is_transparent p.fill) s (solid_outcome p.feathering p.stroke s.path s.mesh) (refusal_spares p.feathering p.stroke s.path s.mesh)

step_spares : (s : RunState) (i : Item) → Spares (stepped s i).answer s (stepped s i).state
step_spares s (line b) = let l = replaced b s.path s.places in line_spares (heard layer.Path l.line.answer) s l
step_spares s (paint b) = paint_spares s.waiting s (paint_of b)

-- the same of a record that was run: where it is refused, no byte of it is passed
abbrev Ran : Result (Option Figure) Cause → RunState → RunState → Type 0
Ran (Ok None) s t = Undrawn s t
Ran (Ok (Some figure)) s t = (figure.number ≡ s.figures + 1) × (t.figures ≡ figure.number)
Ran (Err why) s t = Undrawn s t × (at_byte t ≡ at_byte s)

step_ran : (r : Result (Option Appended) Cause) (s t : RunState) (after : List ℕ) → Spares r s t → Kept s t → Ran (after_step r t after).answer s (after_step r t after).state
step_ran (Ok None) s t after mesh kept = record { mesh = mesh; figures = kept.figures }
step_ran (Ok (Some size)) s t after mesh kept = (ap (λ n. n + 1) kept.figures, refl)
step_ran (Err why) s t after mesh kept = (record { mesh = mesh; figures = kept.figures }, λ i. kept.size i - length (kept.rest i))

reading_ran : (r : Result First Cause) (s : RunState) → Ran (after_reading r s).answer s (after_reading r s).state
reading_ran (Ok f) s = step_ran (stepped s f.item).answer s (stepped s f.item).state f.after (step_spares s f.item) (step_keeps s f.item)
reading_ran (Err why) s = (record { mesh = refl; figures = refl }, refl)

first_ran : (s : RunState) → Ran (first_run s).answer s (first_run s).state
first_ran s = reading_ran (first_of s.rest) s

-- over a record that drew nothing
undrawn_then : (s t u : RunState) → Undrawn s t → Undrawn t u → Undrawn s u
undrawn_then s t u d e = record { mesh = e.mesh ∙ d.mesh; figures = e.figures ∙ d.figures }

onto : (a : Result (Option Figure) Halt) (s t u : RunState) → t.size ≡ s.size → length t.rest < length s.rest → Undrawn s t → Leaves a t u → Leaves a s u
onto (Ok (Some figure)) s t u same less d l = record { number = l.number ∙ ap (λ n. n + 1) d.figures; figures = l.figures; onward = omega (arith, less, l.onward) }
onto (Ok None) s t u same less d l = (undrawn_then s t u d l.0, l.1)
onto (Err halt) s t u same less d l = (undrawn_then s t u d l.0, λ short. l.1 (subst (λ n. n ≤ 49152) (sym same) short))

turned : (r : Result (Option Figure) Cause) (s t : RunState) → t.size ≡ s.size → ((a : Option Figure) → r ≡ Ok a → length t.rest < length s.rest) → Ran r s t → (r ≡ Ok None → Leaves (along first_figure t).answer t (along first_figure t).state) →
    Leaves (turn first_figure (along first_figure) (at_byte s) r t).answer s (turn first_figure (along first_figure) (at_byte s) r t).state
turned (Ok None) s t same less ran go = onto (along first_figure t).answer s t (along first_figure t).state same (less None refl) ran (go refl)
turned (Ok (Some figure)) s t same less ran go = record { number = ran.0; figures = ran.1; onward = less (Some figure) refl }
turned (Err why) s t same less ran go = (ran.0, λ _. sym ran.1)

abbrev Left : RunState → Then (Result (Option Figure) Halt) → Type 0
Left s x = Leaves x.answer s x.state

at_the_end : (s : RunState) → length s.rest ≤ 0 → Left s (answered (Ok None) s)
at_the_end s h = (record { mesh = refl; figures = refl }, nil_from_length s.rest (omega arith))

pub leaves : (s t : RunState) (r : Result (Option Figure) Halt) → answered r t ≡ along first_figure s → Leaves r s t
leaves s t r e =
    subst (Left s) (sym e)
    (all_along Left at_the_end (λ u some go. turned (first_run u).answer u (first_run u).state (same_size u) (shrinks u) (first_ran u) go) s)
