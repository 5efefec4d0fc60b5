-- From the counts by point and row to the promise about a figure's vertex numbers.
use Rattle.std.proofs.Common.{◌≡◌, ℕ, ◌+◌, ◌-◌, ◌*◌, ◌/◌, ◌%◌, ◌<◌, ◌≤◌, List, sym, refl, ap, ◌∙◌, subst, subst₂, inl, inr, mod-lt, mul-le-mul_left, arith}
use native.Mathlib.Nat.{div-add-mod}
use Rattle.tessellator.specs.Triangles.{Triangle}
use Rattle.promise.specs.Rims.{shared, Edge, InRow, AtEnd, Around, Next}
use Rattle.promise.proofs.Counts.{Along, Round, Ending}

-- The count of each edge in a figure of R rows: its lesser end is at some point a and row s, and its greater end e points and f rows on.
abbrev pub Counted : ℕ → List Triangle → (ℕ → ℕ → ℕ → ℕ → ℕ) → Type 0
Counted R ts count = (a s e f : ℕ) → s < R → f < R → 1 ≤ R * e + f → shared (R * a + s) (R * a + s + (R * e + f)) ts ≡ count a s e f

module _ (R n : ℕ) (h_r : 1 ≤ R) (hn : 2 ≤ n) (ts : List Triangle) (count : ℕ → ℕ → ℕ → ℕ → ℕ) (counted : Counted R ts count) where
  abbrev Judged : (ℕ → ℕ → Type 0) → ℕ → ℕ → Type 0
  Judged Rim u d = (shared u (u + d) ts ≤ 2) × (shared u (u + d) ts ≡ 1 → Rim u (u + d))

  -- where a count of one is on the rim, and none is above two, every edge off the rim counts two
  pub two_elsewhere : (Rim : ℕ → ℕ → Type 0) →
      ((a s e f : ℕ) → s < R → f < R → (count a s e f ≤ 2) × (count a s e f ≡ 1 → Rim (R * a + s) (R * a + s + (R * e + f)))) →
      (u v : ℕ) → Edge ts u v → (Rim u v → ⊥) → shared u v ts ≡ 2
  two_elsewhere Rim judge u v edge off =
      let w : u + (v - u) ≡ v = omega arith in
      let j : Judged Rim u (v - u) =
      subst₂ (Judged Rim) (div-add-mod u R) (div-add-mod (v - u) R)
      (known (u / R) (u % R) ((v - u) / R) ((v - u) % R) (mod-lt u h_r) (mod-lt (v - u) h_r) (subst (λ x. 1 ≤ x) (sym (div-add-mod (v - u) R)) (omega arith))) in
      let most : shared u v ts ≤ 2 = subst (λ x. shared u x ts ≤ 2) w j.0 in
      let one : (shared u v ts ≡ 1 → ⊥) = λ h. off (subst (λ x. shared u x ts ≡ 1 → Rim u x) w j.1 h) in
      omega (arith, most, one, edge)
    where
      known : (a s e f : ℕ) → s < R → f < R → 1 ≤ R * e + f → Judged Rim (R * a + s) (R * e + f)
      known a s e f hs hf hd =
          let c = counted a s e f hs hf hd in
          (rw c (judge a s e f hs hf).0, λ h. (judge a s e f hs hf).1 (sym c ∙ h))

  -- a rim edge along a row, and one at an end of a line
  here : (a s e f u v : ℕ) → s < R → f < R → 1 ≤ R * e + f → count a s e f ≡ 1 → u ≡ R * a + s → v ≡ R * a + s + (R * e + f) → shared u v ts ≡ 1
  here a s e f u v hs hf hd h eu ev = subst₂ (λ y z. shared y z ts ≡ 1) (sym eu) (sym ev) (counted a s e f hs hf hd ∙ h)

  pub one_next : (r : ℕ) → r < R → ((i : ℕ) → i < n - 1 → count i r 1 0 ≡ 1) → (u v : ℕ) → InRow (Next n) R r u v → shared u v ts ≡ 1
  one_next r hr known u v (i, j, (ej, hj), eu, ev) =
      here i r 1 0 u v hr (omega arith) (omega arith) (known i (omega arith)) eu (ev ∙ ap (λ x. R * x + r) ej ∙ omega arith)

  pub one_around : (r : ℕ) → r < R → ((i e : ℕ) → Round (n - 1) i e → count i r e 0 ≡ 1) → (u v : ℕ) → InRow (Around n) R r u v → shared u v ts ≡ 1
  one_around r hr known u v (i, j, inl (ej, hj), eu, ev) =
      here i r 1 0 u v hr (omega arith) (omega arith) (known i 1 (inl (refl, omega arith))) eu (ev ∙ ap (λ x. R * x + r) ej ∙ omega arith)
  one_around r hr known u v (i, j, inr (ei, ej), eu, ev) =
      here i r (n - 1) 0 u v hr (omega arith) (omega (arith, mul-le-mul_left {m = 1} {n = n - 1} R (omega arith))) (known i (n - 1) (inr (ei, refl))) eu
      (ev ∙ ap (λ x. R * x + r) (let e : j ≡ i + (n - 1) = omega arith in e) ∙ omega arith)

  pub one_end : (r f q : ℕ) → r < R → f < R → 1 ≤ f → r + f ≡ q → ((i : ℕ) → Ending (n - 1) i → count i r 0 f ≡ 1) →
      (u v : ℕ) → AtEnd n R r q u v → shared u v ts ≡ 1
  one_end r f q hr hf h1 eq known u v (i, end, eu, ev) =
      here i r 0 f u v hr hf (omega arith) (known i (elim end [ inl x ↦ inl x | inr x ↦ inr (omega arith) ])) eu (ev ∙ omega arith)

-- neighbours in one row, and the two rows at an end
module _ (R n a s e f : ℕ) (hn : 2 ≤ n) where
  pub row_around : (r : ℕ) → s ≡ r → f ≡ 0 → Round (n - 1) a e → InRow (Around n) R r (R * a + s) (R * a + s + (R * e + f))
  row_around r es ef near =
      (a, a + e, elim near [ inl x ↦ inl (omega arith, omega arith) | inr x ↦ inr (x.0, omega arith) ], omega arith, omega arith)

  pub row_next : (r : ℕ) → s ≡ r → f ≡ 0 → Along (n - 1) a e → InRow (Next n) R r (R * a + s) (R * a + s + (R * e + f))
  row_next r es ef near = (a, a + e, (omega arith, omega arith), omega arith, omega arith)

  pub rows_end : (r q : ℕ) → s ≡ r → e ≡ 0 → s + f ≡ q → Ending (n - 1) a → AtEnd n R r q (R * a + s) (R * a + s + (R * e + f))
  rows_end r q es ee eq end =
      (a, elim end [ inl x ↦ inl x | inr x ↦ inr (omega arith) ], omega arith, rw ee (omega arith))
