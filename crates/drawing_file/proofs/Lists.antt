-- The list of a file is its first figure's size, and the list of what is left.
use Rattle.std.proofs.Common.{◌≡◌, ℕ, ◌<◌, ◌≤◌, List, length, Some, None, Ok, Err, Option, Result, sym, refl, ap, ◌∙◌, subst}
use Rattle.tessellator.specs.declared.fault.Appended.{Appended}
use Rattle.drawing_file.specs.Faults.{Cause}
use Rattle.drawing_file.specs.Format.{First, first_of}
use Rattle.drawing_file.specs.Laws.{listing, listed, before, Heads}
use Rattle.drawing_file.specs.Runs.{RunState, Then, answered, Halt, stepped, after_step, after_reading, first_run, turn, along, first_figure, at_byte}
use Rattle.drawing_file.specs.declared.runner.Figure.{Figure}
use Rattle.drawing_file.proofs.Turns.{step_keeps, at_end, one_turn, whole, all_along}

-- the file stays the same
step_size : (r : Result (Option Appended) Cause) (s : RunState) (after : List ℕ) → (after_step r s after).state.size ≡ s.size
step_size (Ok None) s after = refl
step_size (Ok (Some size)) s after = refl
step_size (Err why) s after = refl

reading_size : (r : Result First Cause) (s : RunState) → (after_reading r s).state.size ≡ s.size
reading_size (Ok f) s = step_size (stepped s f.item).answer (stepped s f.item).state f.after ∙ (step_keeps s f.item).size
reading_size (Err why) s = refl

pub same_size : (s : RunState) → (first_run s).state.size ≡ s.size
same_size s = reading_size (first_of s.rest) s

turned : (at : ℕ) (r : Result (Option Figure) Cause) (t : RunState) → t.size ≤ 49152 →
    (r ≡ Ok None → Heads (along first_figure t).answer (along listing t) (along first_figure t).state) →
    Heads (turn first_figure (along first_figure) at r t).answer (turn listing (along listing) at r t) (turn first_figure (along first_figure) at r t).state
turned at (Ok None) t h go = go refl
turned at (Ok (Some figure)) t h go = ap (before figure.size) (whole listing t h)
turned at (Err why) t h go = refl

-- of a file that is not too long
abbrev Listed : RunState → Then (Result (Option Figure) Halt) → Type 0
Listed s x = s.size ≤ 49152 → Heads x.answer (along listing s) x.state

list_ends : (s : RunState) → length s.rest ≤ 0 → Listed s (answered (Ok None) s)
list_ends s h short = at_end listing s h

list_turns : (s : RunState) → 0 < length s.rest → ((first_run s).answer ≡ Ok None → Listed (first_run s).state (along first_figure (first_run s).state)) →
    Listed s (turn first_figure (along first_figure) (at_byte s) (first_run s).answer (first_run s).state)
list_turns s some go short =
    let still : (first_run s).state.size ≤ 49152 = subst (λ n. n ≤ 49152) (sym (same_size s)) short in
    let first = turn first_figure (along first_figure) (at_byte s) (first_run s).answer (first_run s).state in
    subst (λ l. Heads first.answer l first.state) (sym (one_turn listing s some))
    (turned (at_byte s) (first_run s).answer (first_run s).state still (λ e. go e still))

pub heads : (s t : RunState) (r : Result (Option Figure) Halt) → s.size ≤ 49152 → answered r t ≡ along first_figure s → Heads r (listed s) t
heads s t r short e =
    let along-s : Heads (along first_figure s).answer (along listing s) (along first_figure s).state = all_along Listed list_ends list_turns s short in
    subst (λ (x : Then (Result (Option Figure) Halt)). Heads x.answer (listed s) x.state) (sym e)
    (subst (λ l. Heads (along first_figure s).answer l (along first_figure s).state) (whole listing s short) along-s)
