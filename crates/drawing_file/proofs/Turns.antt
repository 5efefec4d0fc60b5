-- A file, record by record.
use Rattle.std.proofs.Common.{◌≡◌, ℕ, zero, suc, ◌+◌, ◌-◌, ◌*◌, ◌<◌, ◌≤◌, Bool, true, false, cond, eqb, ltb, List, [], ◌∷◌, length, drop, Some, None, Ok, Err, Option, Result, sym, refl, ap, ◌∙◌, subst, inl, inr, arith, length-drop}
use Rattle.std.proofs.lemmas.Bool.{cond-false, ne_eqb, le-ltb, cases_lt}
use Rattle.ecolor.specs.Colors.{is_transparent}
use Rattle.tessellator.specs.Outcome.{Outcome}
use Rattle.tessellator.specs.declared.fault.Appended.{Appended}
use Rattle.drawing_file.specs.Faults.{Cause, cause_of, heard}
use Rattle.drawing_file.specs.Format.{First, Item, line, paint, followed, first_of}
use Rattle.drawing_file.specs.Replaced.{Replaced, replaced}
use Rattle.drawing_file.specs.Solids.{solid_outcome}
use Rattle.drawing_file.specs.Values.{paint_of}
use Rattle.drawing_file.specs.Runs.{RunState, Then, answered, after_line, after_stroke, stroked, faulted, painted, stepped, after_step, after_reading, first_run, Account, turn, records, along, file, first_figure, at_byte, Halt}
use Rattle.drawing_file.specs.declared.decode.Paint.{Paint}
use Rattle.drawing_file.specs.declared.fault.FileFault.TheVariants.{CutShort, FilledOpenLine}
use Rattle.drawing_file.specs.declared.fault.Layer.TheVariants as layer
use Rattle.drawing_file.specs.declared.runner.Figure.{Figure}
use Rattle.drawing_file.specs.declared.runner.Waiting.{Waiting}
use Rattle.drawing_file.specs.declared.runner.Waiting.TheVariants.{Nothing, OpenLine}

-- a record takes three bytes and more
followed_shrinks : (r : Result Item Cause) (after : List ℕ) (f : First) → followed r after ≡ Ok f → length f.after ≤ length after
followed_shrinks (Ok i) after f e = let s : after ≡ f.after = cc in omega (arith, ap length s)
followed_shrinks (Err x) after f e = let z : ◌≡◌ {A = ℕ} 0 1 = cc in omega arith

cut_shrinks : (b : Bool) (r : Result First Cause) (f : First) (m : ℕ) → ((g : First) → r ≡ Ok g → length g.after ≤ m) → cond b (Err (cause_of CutShort)) r ≡ Ok f → length f.after ≤ m
cut_shrinks true r f m h e = let z : ◌≡◌ {A = ℕ} 0 1 = cc in omega arith
cut_shrinks false r f m h e = h f e

pub first_shrinks : (b : List ℕ) (f : First) → first_of b ≡ Ok f → length f.after < length b
first_shrinks [] f e = let z : ◌≡◌ {A = ℕ} 0 1 = cc in omega arith
first_shrinks (t ∷ []) f e = let z : ◌≡◌ {A = ℕ} 0 1 = cc in omega arith
first_shrinks (t ∷ u ∷ []) f e = let z : ◌≡◌ {A = ℕ} 0 1 = cc in omega arith
first_shrinks (t ∷ u ∷ v ∷ b) f e =
    let n = u * 256 + v in
    omega (arith, cut_shrinks (ltb (length b) n) _ f (length b) (λ g h. omega (arith, followed_shrinks _ (drop n b) g h, length-drop n b)) e)

-- what running a record leaves as it was
pub record Kept (s t : RunState) : Type 0 where
  pub rest : t.rest ≡ s.rest
  pub size : t.size ≡ s.size
  pub figures : t.figures ≡ s.figures

same : (s : RunState) → Kept s s
same s = record { rest = refl; size = refl; figures = refl }

line_keeps : (r : Result (Unit {0}) Cause) (s : RunState) (l : Replaced) → Kept s (after_line r s l).state
line_keeps (Ok t) s l = record { rest = refl; size = refl; figures = refl }
line_keeps (Err why) s l = record { rest = refl; size = refl; figures = refl }

stroke_keeps : (r : Result Appended Cause) (s : RunState) (o : Outcome) → Kept s (after_stroke r s o).state
stroke_keeps (Ok size) s o = record { rest = refl; size = refl; figures = refl }
stroke_keeps (Err why) s o = record { rest = refl; size = refl; figures = refl }

open_keeps : (b : Bool) (s : RunState) (o : Outcome) → Kept s (cond b (stroked s o) (faulted FilledOpenLine s)).state
open_keeps true s o = stroke_keeps (heard layer.Figure o.answer) s o
open_keeps false s o = same s

paint_keeps : (w : Waiting) (s : RunState) (p : Paint) → Kept s (painted w s p).state
paint_keeps Nothing s p = same s
paint_keeps OpenLine s p = open_keeps (is_transparent p.fill) s (solid_outcome p.feathering p.stroke s.path s.mesh)

pub step_keeps : (s : RunState) (i : Item) → Kept s (stepped s i).state
step_keeps s (line b) = let l = replaced b s.path s.places in line_keeps (heard layer.Path l.line.answer) s l
step_keeps s (paint b) = paint_keeps s.waiting s (paint_of b)

-- the bytes after a record are fewer than those that running it left
pub passes : (s t : RunState) (i : Item) (after : List ℕ) (answer : Result (Option Appended) Cause) →
    Ok (record { item = i; after = after }) ≡ first_of s.rest → answered answer t ≡ stepped s i → length after < length t.rest
passes s t i after answer read ran =
    let kept : t.rest ≡ s.rest = ap (λ (x : Then (Result (Option Appended) Cause)). x.state.rest) ran ∙ (step_keeps s i).rest in
    omega (arith, ap length kept, first_shrinks s.rest (record { item = i; after = after }) (sym read))

-- where running a record is not refused, fewer bytes are left
after_step_lem : (r : Result (Option Appended) Cause) (s : RunState) (after : List ℕ) (a : Option Figure) → (after_step r s after).answer ≡ Ok a → (after_step r s after).state.rest ≡ after
after_step_lem (Ok None) s after a e = refl
after_step_lem (Ok (Some size)) s after a e = refl
after_step_lem (Err why) s after a e = let z : ◌≡◌ {A = ℕ} 0 1 = cc in absurd (omega arith)

after_reading_lem : (r : Result First Cause) (s : RunState) (m : ℕ) (a : Option Figure) → ((f : First) → r ≡ Ok f → length f.after < m) → (after_reading r s).answer ≡ Ok a → length (after_reading r s).state.rest < m
after_reading_lem (Ok f) s m a h e = omega (arith, h f refl, ap length (after_step_lem (stepped s f.item).answer (stepped s f.item).state f.after a e))
after_reading_lem (Err why) s m a h e = let z : ◌≡◌ {A = ℕ} 0 1 = cc in omega arith

pub shrinks : (s : RunState) (a : Option Figure) → (first_run s).answer ≡ Ok a → length (first_run s).state.rest < length s.rest
shrinks s a e = after_reading_lem (first_of s.rest) s (length s.rest) a (first_shrinks s.rest) e

-- As many turns as bytes suffice, and more change nothing.
module _ {B : Type 0} (account : Account B) where
  turn_same : (go on : RunState → B) (at : ℕ) (r : Result (Option Figure) Cause) (t : RunState) → ((a : Option Figure) → r ≡ Ok a → go t ≡ on t) → turn account go at r t ≡ turn account on at r t
  turn_same go on at (Ok None) t h = h None refl
  turn_same go on at (Ok (Some figure)) t h = ap (account.figure figure t) (h (Some figure) refl)
  turn_same go on at (Err why) t h = refl

  no_more : (n : ℕ) (s : RunState) → length s.rest ≤ 0 → records account n s ≡ account.end s
  no_more zero s h = refl
  no_more (suc n) s h =
      let empty : length s.rest ≡ 0 = omega arith in
      ap (λ k. cond (eqb k 0) (account.end s) (turn account (records account n) (at_byte s) (first_run s).answer (first_run s).state)) empty

  pub enough : (n m : ℕ) (s : RunState) → length s.rest ≤ n → length s.rest ≤ m → records account n s ≡ records account m s
  enough zero m s h i = sym (no_more m s h)
  enough (suc n) zero s h i = no_more (suc n) s i
  enough (suc n) (suc m) s h i =
      ap (λ x. cond (eqb (length s.rest) 0) (account.end s) x)
      (turn_same (records account n) (records account m) (at_byte s) (first_run s).answer (first_run s).state
      (λ a e. let less = shrinks s a e in enough n m (first_run s).state (omega arith) (omega arith)))

  -- at the end of the file
  pub at_end : (s : RunState) → length s.rest ≤ 0 → along account s ≡ account.end s
  at_end s h = no_more (length s.rest) s h

  -- the first record, and those after it
  pub one_turn : (s : RunState) → 0 < length s.rest → along account s ≡ turn account (along account) (at_byte s) (first_run s).answer (first_run s).state
  one_turn s h =
      let n = length s.rest - 1 in
      let some : length s.rest ≡ suc n = omega arith in
      ap (λ k. records account k s) some
      ∙ cond-false (eqb (length s.rest) 0) (account.end s) _ (ne_eqb (length s.rest) 0 (λ z. omega arith))
      ∙ turn_same (records account n) (along account) (at_byte s) (first_run s).answer (first_run s).state
      (λ a e. let less = shrinks s a e in enough n (length (first_run s).state.rest) (first_run s).state (omega arith) (omega arith))

  -- the same, by what the run of the record answered and left
  pub goes_on : (s t : RunState) (r : Result (Option Figure) Cause) → 0 < length s.rest → answered r t ≡ first_run s → along account s ≡ turn account (along account) (at_byte s) r t
  goes_on s t r h e = one_turn s h ∙ ap (λ (x : Then (Result (Option Figure) Cause)). turn account (along account) (at_byte s) x.answer x.state) (sym e)

  pub quiet : (s t : RunState) (a : Option Figure) → 0 < length s.rest → a ≡ None → answered (Ok a) t ≡ first_run s → along account t ≡ along account s
  quiet s t a h none e = sym (goes_on s t (Ok a) h e ∙ ap (λ x. turn account (along account) (at_byte s) (Ok x) t) none)

  pub at_figure : (s t : RunState) (a : Option Figure) (figure : Figure) → 0 < length s.rest → a ≡ Some figure → answered (Ok a) t ≡ first_run s → account.figure figure t (along account t) ≡ along account s
  at_figure s t a figure h some e = sym (goes_on s t (Ok a) h e ∙ ap (λ x. turn account (along account) (at_byte s) (Ok x) t) some)

  -- of a file that is not too long
  pub whole : (s : RunState) → s.size ≤ 49152 → along account s ≡ file account s
  whole s h = sym (cond-false (ltb 49152 s.size) _ _ (le-ltb 49152 s.size h))

pub fewer : (s t : RunState) (a : Option Figure) → answered (Ok a) t ≡ first_run s → length t.rest < length s.rest
fewer s t a e =
    omega (arith, shrinks s a (sym (ap (λ (x : Then (Result (Option Figure) Cause)). x.answer) e)), ap (λ (x : Then (Result (Option Figure) Cause)). length x.state.rest) e)

-- what holds at the end, and goes on over a record that drew nothing, holds of the first figure
module _ (P : RunState → Then (Result (Option Figure) Halt) → Type 0)
    (end : (s : RunState) → length s.rest ≤ 0 → P s (answered (Ok None) s))
    (step : (s : RunState) → 0 < length s.rest → ((first_run s).answer ≡ Ok None → P (first_run s).state (along first_figure (first_run s).state)) → P s (turn first_figure (along first_figure) (at_byte s) (first_run s).answer (first_run s).state)) where
  by_turns : (n : ℕ) (s : RunState) → length s.rest ≤ n → P s (along first_figure s)
  by_turns zero s h = subst (P s) (sym (at_end first_figure s h)) (end s h)
  by_turns (suc n) s h =
      elim (cases_lt 0 (length s.rest)) [
        | inl some ↦ subst (P s) (sym (one_turn first_figure s some)) (step s some (λ e. let less = shrinks s None e in by_turns n (first_run s).state (omega arith)))
        | inr none ↦ subst (P s) (sym (at_end first_figure s none)) (end s none)
      ]

  pub all_along : (s : RunState) → P s (along first_figure s)
  all_along s = by_turns (length s.rest) s (omega arith)
