-- The cutting that fills each run as far as it goes is a cutting, and none has fewer runs.
-- Assumes nothing.
use Rattle.std.proofs.Common.{◌≡◌, ℕ, suc, ◌+◌, ◌-◌, ◌≤◌, min, max, leb, List, [], ◌∷◌, ◌++◌, length, refl, ap, ◌∙◌, arith}
use Rattle.std.specs.List.{AllByRecursion}
use Rattle.std.proofs.lemmas.Bool.{cond_both, leb-true, leb-false}
use Rattle.tessellator.specs.Triangles.{Triangle, tri}
use Rattle.cutting.specs.Cutting.{lowest, highest, Legal, joined, Cutting, onto, go_on, cut, Narrow}
use Rattle.cutting.proofs.Running.{low_down, high_up}

joined_onto : (t : Triangle) (runs : List (List Triangle)) → joined (onto t runs) ≡ t ∷ joined runs
joined_onto t [] = refl
joined_onto t (run ∷ runs) = refl

joined_go : (ts : List Triangle) (low high : ℕ) → joined (go_on low high ts) ≡ ts
joined_go [] low high = refl
joined_go (tri x y z ∷ ts) low high =
    let p : ℕ = min x (min y z) in
    let q : ℕ = max x (max y z) in
    cond_both (leb (max high q - min low p + 1) 65535) _ _ (λ runs. joined runs ≡ tri x y z ∷ ts)
    (λ h. joined_onto (tri x y z) (go_on (min low p) (max high q) ts) ∙ ap (λ l. tri x y z ∷ l) (joined_go ts (min low p) (max high q)))
    (λ h. joined_onto (tri x y z) (go_on p q ts) ∙ ap (λ l. tri x y z ∷ l) (joined_go ts p q))

pub joined_cut : (ts : List Triangle) → joined (cut ts) ≡ ts
joined_cut [] = refl
joined_cut (tri x y z ∷ ts) =
    joined_onto (tri x y z) (go_on (min x (min y z)) (max x (max y z)) ts) ∙ ap (λ l. tri x y z ∷ l) (joined_go ts (min x (min y z)) (max x (max y z)))

-- the first run goes on from low and high, and is legal with what it had; the others are legal
abbrev Fine : ℕ → ℕ → List (List Triangle) → Type 0
Fine low high [] = ⊥
Fine low high (run ∷ runs) = (highest high run - lowest low run + 1 ≤ 65535) × AllByRecursion Legal runs

fine_onto : (x y z low high : ℕ) (runs : List (List Triangle)) → Fine (min low (min x (min y z))) (max high (max x (max y z))) runs → Fine low high (onto (tri x y z) runs)
fine_onto x y z low high [] h = absurd h
fine_onto x y z low high (run ∷ runs) h = h

legal_onto : (x y z : ℕ) (runs : List (List Triangle)) → Fine (min x (min y z)) (max x (max y z)) runs → AllByRecursion Legal (onto (tri x y z) runs)
legal_onto x y z [] h = absurd h
legal_onto x y z (run ∷ runs) (h, r) = ((omega arith, h), r)

fine_go : (ts : List Triangle) (low high : ℕ) → high - low + 1 ≤ 65535 → AllByRecursion Narrow ts → Fine low high (go_on low high ts)
fine_go [] low high h a = (h, tt)
fine_go (tri x y z ∷ ts) low high h (one, a) =
    let p : ℕ = min x (min y z) in
    let q : ℕ = max x (max y z) in
    cond_both (leb (max high q - min low p + 1) 65535) _ _ (Fine low high)
    (λ e. fine_onto x y z low high (go_on (min low p) (max high q) ts) (fine_go ts (min low p) (max high q) (leb-true _ _ e) a))
    (λ e. (h, legal_onto x y z (go_on p q ts) (fine_go ts p q one a)))

-- how many runs
length-onto : (t : Triangle) (runs : List (List Triangle)) (n : ℕ) → 1 ≤ n → length runs ≤ n → length (onto t runs) ≤ n
length-onto t [] n h l = h
length-onto t (run ∷ runs) n h l = l

-- what is left of a run of another cutting, and its n further runs, are `rest`
module _ (rest : List Triangle) (n : ℕ) (few : (low high : ℕ) → length (go_on low high rest) ≤ n + 1) where
  -- a run that spans no more than the other's takes all of it
  inside : (run : List Triangle) (low high l h : ℕ) → l ≤ low → high ≤ h → highest h run - lowest l run + 1 ≤ 65535 →
      length (go_on low high (run ++ rest)) ≤ n + 1
  inside [] low high l h hl hh legal = few low high
  inside (tri x y z ∷ run) low high l h hl hh legal =
      let p : ℕ = min x (min y z) in
      let q : ℕ = max x (max y z) in
      cond_both (leb (max high q - min low p + 1) 65535) _ _ (λ runs. length runs ≤ n + 1)
      (λ e. length-onto (tri x y z) (go_on (min low p) (max high q) (run ++ rest)) (n + 1) (omega arith)
      (inside run (min low p) (max high q) (min l p) (max h q) (omega arith) (omega arith) legal))
      (λ e. absurd (let c = leb-false _ _ e in omega (arith, c, legal, high_up run (max h q), low_down run (min l p))))

  -- any run at all is at most one behind
  behind : (run : List Triangle) (low high l h : ℕ) → highest h run - lowest l run + 1 ≤ 65535 →
      length (go_on low high (run ++ rest)) ≤ n + 2
  behind [] low high l h legal = omega (arith, few low high)
  behind (tri x y z ∷ run) low high l h legal =
      let p : ℕ = min x (min y z) in
      let q : ℕ = max x (max y z) in
      cond_both (leb (max high q - min low p + 1) 65535) _ _ (λ runs. length runs ≤ n + 2)
      (λ e. length-onto (tri x y z) (go_on (min low p) (max high q) (run ++ rest)) (n + 2) (omega arith)
      (behind run (min low p) (max high q) (min l p) (max h q) legal))
      (λ e. omega (
        arith,
        length-onto (tri x y z) (go_on p q (run ++ rest)) (n + 1) (omega arith)
            (inside run p q (min l p) (max h q) (omega arith) (omega arith) legal),
      ))

go_few : (runs : List (List Triangle)) → AllByRecursion Legal runs → (low high : ℕ) → length (go_on low high (joined runs)) ≤ length runs + 1
go_few [] a low high = omega arith
go_few ([] ∷ runs) ((l, s), a) low high = omega (arith, l)
go_few ((tri x y z ∷ run) ∷ runs) ((l, s), a) low high =
    let p : ℕ = min x (min y z) in
    let q : ℕ = max x (max y z) in
    let few = go_few runs a in
    cond_both (leb (max high q - min low p + 1) 65535) _ _ (λ r. length r ≤ suc (length runs) + 1)
    (λ e. length-onto (tri x y z) (go_on (min low p) (max high q) (run ++ joined runs)) (suc (length runs) + 1) (omega arith)
    (omega (arith, behind (joined runs) (length runs) few run (min low p) (max high q) p q s)))
    (λ e. omega (
      arith,
      length-onto (tri x y z) (go_on p q (run ++ joined runs)) (length runs + 1) (omega arith)
          (inside (joined runs) (length runs) few run p q p q (omega arith) (omega arith) s),
    ))

pub cut_few : (runs : List (List Triangle)) → AllByRecursion Legal runs → length (cut (joined runs)) ≤ length runs
cut_few [] a = omega arith
cut_few ([] ∷ runs) ((l, s), a) = omega (arith, l)
cut_few ((tri x y z ∷ run) ∷ runs) ((l, s), a) =
    let p : ℕ = min x (min y z) in
    let q : ℕ = max x (max y z) in
    length-onto (tri x y z) (go_on p q (run ++ joined runs)) (suc (length runs)) (omega arith)
    (omega (arith, inside (joined runs) (length runs) (go_few runs a) run p q p q (omega arith) (omega arith) s))

pub cut_cuts : (ts : List Triangle) → AllByRecursion Narrow ts → Cutting ts (cut ts)
cut_cuts [] a = (refl, tt)
cut_cuts (tri x y z ∷ ts) (one, a) =
    let p : ℕ = min x (min y z) in
    let q : ℕ = max x (max y z) in
    (joined_cut (tri x y z ∷ ts), legal_onto x y z (go_on p q ts) (fine_go ts p q one a))
