-- Counting the runs, one after the other.
use Rattle.std.proofs.Common.{◌≡◌, ℕ, ◌+◌, ◌-◌, ◌≤◌, min, max, true, false, leb, List, [], ◌∷◌, ◌++◌, length, get_or, Some, Err, sym, refl, ap, ◌∙◌, subst, arith}
use Rattle.std.proofs.lemmas.Bool.{cond_both, cond-true, leb-true, le-leb}
use Rattle.std.proofs.lemmas.List.{length-append}
use Rattle.tessellator.specs.Triangles.{Triangle, tri}
use Rattle.cutting.specs.Cutting.{lowest, highest, joined, onto, go_on, cut}
use Rattle.cutting.specs.Outcome.{too_wide, counted, run_count}
use Rattle.cutting.specs.Runs.{span_of_run}
use Rattle.cutting.specs.Spans.{narrow}
use Rattle.cutting.specs.declared.fault.CutFault.{CutFault}
use Rattle.cutting.proofs.Cuts.{joined_cut}
use Rattle.cutting.proofs.Running.{low_down, high_up}

-- what goes on from low and high in a run that 16 bits can name has no triangle that is too wide
none_wide_on : (ts rest : List Triangle) (low high k : ℕ) → highest high ts - lowest low ts + 1 ≤ 65535 → too_wide k (ts ++ rest) ≡ too_wide (k + length ts) rest
none_wide_on [] rest low high k h = ap (λ n. too_wide n rest) (omega arith)
none_wide_on (tri x y z ∷ ts) rest low high k h =
    let p : ℕ = min x (min y z) in
    let q : ℕ = max x (max y z) in
    cond-true _ _ _ (le-leb (q - p + 1) 65535 (omega (arith, high_up ts (max high q), low_down ts (min low p))))
    ∙ none_wide_on ts rest (min low p) (max high q) (k + 1) h
    ∙ ap (λ n. too_wide n rest) (omega arith)

-- nor has a whole run
none_wide : (run rest : List Triangle) (k : ℕ) → narrow (span_of_run run) ≡ true → too_wide k (run ++ rest) ≡ too_wide (k + length run) rest
none_wide [] rest k h = ap (λ n. too_wide n rest) (omega arith)
none_wide (tri x y z ∷ ts) rest k h =
    let p : ℕ = min x (min y z) in
    let q : ℕ = max x (max y z) in
    let fits : highest q ts - lowest p ts + 1 ≤ 65535 = leb-true _ _ h in
    cond-true _ _ _ (le-leb (q - p + 1) 65535 (omega (arith, high_up ts q, low_down ts p)))
    ∙ none_wide_on ts rest p q (k + 1) fits
    ∙ ap (λ n. too_wide n rest) (omega arith)

-- the first run goes on from low and high, and 16 bits can name it with what it had
abbrev FirstFits : ℕ → ℕ → List (List Triangle) → Type 0
FirstFits low high [] = ⊥
FirstFits low high (run ∷ runs) = highest high run - lowest low run + 1 ≤ 65535

first_onto : (x y z low high : ℕ) (runs : List (List Triangle)) → FirstFits (min low (min x (min y z))) (max high (max x (max y z))) runs → FirstFits low high (onto (tri x y z) runs)
first_onto x y z low high [] h = absurd h
first_onto x y z low high (run ∷ runs) h = h

first_fits : (ts : List Triangle) (low high : ℕ) → high - low + 1 ≤ 65535 → FirstFits low high (go_on low high ts)
first_fits [] low high h = h
first_fits (tri x y z ∷ ts) low high h =
    let p : ℕ = min x (min y z) in
    let q : ℕ = max x (max y z) in
    cond_both (leb (max high q - min low p + 1) 65535) _ _ (FirstFits low high)
    (λ e. first_onto x y z low high (go_on (min low p) (max high q) ts) (first_fits ts (min low p) (max high q) (leb-true _ _ e)))
    (λ e. h)

first_narrow : (x y z : ℕ) (runs others : List (List Triangle)) (run : List Triangle) → FirstFits (min x (min y z)) (max x (max y z)) runs → onto (tri x y z) runs ≡ run ∷ others →
    narrow (span_of_run run) ≡ true
first_narrow x y z [] others run f e = absurd f
first_narrow x y z (r ∷ rs) others run f e =
    subst (λ l. narrow (span_of_run l) ≡ true) (ap (λ l. get_or l 0 []) e)
    (le-leb (highest (max x (max y z)) r - lowest (min x (min y z)) r + 1) 65535 f)

-- a run that 16 bits cannot name begins with a triangle that is too wide
begins_wide : (ts run : List Triangle) (others : List (List Triangle)) (k : ℕ) → cut ts ≡ run ∷ others → narrow (span_of_run run) ≡ false → too_wide k ts ≡ Some k
begins_wide [] run others k e h = absurd (let n = ap length e in omega arith)
begins_wide (tri x y z ∷ ts) run others k e h =
    let p : ℕ = min x (min y z) in
    let q : ℕ = max x (max y z) in
    cond_both (leb (q - p + 1) 65535) _ _ (λ o. o ≡ Some k)
    (λ w. absurd (let n = sym (first_narrow x y z (go_on p q ts) others run (first_fits ts p q (leb-true _ _ w)) e) ∙ h in let z : ◌≡◌ {A = ℕ} 0 1 = cc in omega arith))
    (λ w. refl)

-- So many of all triangles have passed, in so many runs and none of them too wide, and `rest` is left.
pub record Tally (all rest : List Triangle) (passed count : ℕ) : Type 0 where
  pub wide : too_wide 0 all ≡ too_wide passed rest
  pub runs : count + length (cut rest) ≡ length (cut all)
  pub long : passed + length rest ≡ length all

-- the next run, in front of those after it
module _ (all rest run after : List Triangle) (passed count : ℕ) (t : Tally all rest passed count) (e : cut rest ≡ run ∷ cut after) where
  rest_is : rest ≡ run ++ after
  rest_is = sym (joined_cut rest) ∙ ap joined e ∙ ap (λ l. run ++ l) (joined_cut after)

  run_long : passed + length run + length after ≡ length all
  run_long = omega (arith, t.long, ap length rest_is, length-append run after)

  pub run_passes : (n : ℕ) → n ≡ length run → narrow (span_of_run run) ≡ true → Tally all after (passed + n) (count + 1)
  run_passes n long fits =
      subst (λ n. Tally all after (passed + n) (count + 1)) (sym long)
      (record {
        wide = t.wide ∙ ap (too_wide passed) rest_is ∙ none_wide run after passed fits;
        runs = omega (arith, t.runs, ap length e);
        long = run_long;
      })

  pub run_refused : narrow (span_of_run run) ≡ false → Err (CutFault.Span passed) ≡ run_count all
  run_refused wide = ap (λ o. counted o (length (cut all))) (sym (t.wide ∙ begins_wide rest run (cut after) passed e wide))
