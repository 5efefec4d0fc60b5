-- The file's bytes, cut as the code cuts them.
use Rattle.std.proofs.Common.{◌≡◌, ℕ, ◌+◌, ◌-◌, ◌*◌, ◌≤◌, List, [], ◌∷◌, length, get_or, take, drop, Result, ltb, sym, ap, ◌∙◌, arith, le-ltb}
use Rattle.std.specs.List.{IsSplitAt}
use Rattle.std.proofs.lemmas.Bool.{cond-false}
use Rattle.std.proofs.lemmas.List.{take_all}
use Rattle.drawing_file.specs.Faults.{Cause}
use Rattle.drawing_file.specs.Format.{Item, sorted, followed, body, first_of}

pub in_parts : (b : List ℕ) → 3 ≤ length b → first_of b ≡ body (get_or b 0 0) (get_or b 1 0 * 256 + get_or b 2 0) (take (length b - 3) (drop 3 b))
in_parts [] h = absurd (omega arith)
in_parts (t ∷ []) h = absurd (omega arith)
in_parts (t ∷ u ∷ []) h = absurd (omega arith)
in_parts (t ∷ u ∷ v ∷ b) h = ap (body t (u * 256 + v)) (sym (take_all _ b (omega arith)))

-- a first record, by its tag and its bytes
pub framed : (b : List ℕ) (n : ℕ) (part rest : List ℕ) (r : Result Item Cause) → 3 ≤ length b → n ≡ get_or b 1 0 * 256 + get_or b 2 0 →
    IsSplitAt (take (length b - 3) (drop 3 b)) n part rest → r ≡ sorted (get_or b 0 0) part → followed r rest ≡ first_of b
framed b n part rest r long count (fits, front, back, _, _) is =
    let tag = get_or b 0 0 in
    let tail = take (length b - 3) (drop 3 b) in
    let read : r ≡ sorted tag (take n tail) = is ∙ ap (sorted tag) front in
    (λ i. followed (read i) (back i)) ∙ sym (cond-false (ltb (length tail) n) _ _ (le-ltb (length tail) n fits))
    ∙ ap (λ k. body tag k tail) count ∙ sym (in_parts b long)
