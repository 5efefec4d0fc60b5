-- What the counts of bands, rings and fans come to: at most two, and one on the rim only.
use Rattle.std.proofs.Common.{◌≡◌, ℕ, suc, ◌+◌, ◌*◌, ◌<◌, ◌≤◌, Bool, ◌&&◌, eqb, ltb, leb, ◌⊎◌, [], ◌∷◌, ◌++◌, refl, ap, ◌∙◌, ap₂, inl, inr, arith}
use Rattle.std.proofs.lemmas.Bool.{cases_eq}
use Rattle.std.proofs.lemmas.Bool.Decides.{nat_tests}
use Rattle.tessellator.specs.Kinds.{each, cell, cap}
use Rattle.tessellator.specs.Triangles.{tri}
use Rattle.promise.specs.Rims.{shared}
use Rattle.promise.proofs.Bands.{only, block, bands_shared, close_shared, fan_shared, cap_shared}
use Rattle.promise.proofs.Gaps.{bands}
use Rattle.promise.proofs.Sums.{digits, shared_append}

-- An edge has its lesser end at point a, row s of R = k + 1 rows, and its greater end e points and f rows on.

-- the width R * e + f is the width d of e' points and f' rows only if e is e' and f is f'
width : (R e f e' f' d : ℕ) → f < R → f' < R → d ≡ R * e' + f' → eqb (R * e + f) d ≡ (eqb e e' && eqb f f')
width R e f e' f' d hf hf' h = ap (eqb (R * e + f)) h ∙ digits R e f e' f' hf hf'

-- along a row to the next point, across to the next row, and aslant
abbrev bands_count : ℕ → ℕ → ℕ → ℕ → Bool → Bool → Bool → ℕ
bands_count k m a s across along slant =
    block a s 0 m 0 k (only across 1 + only along 1) + block a s 0 m 1 k (only along 1 + only slant 2) + block a s 1 m 0 k (only across 1)

-- the same from the last point l to the first
abbrev close_count : ℕ → ℕ → ℕ → ℕ → Bool → Bool → Bool → ℕ
close_count k l a s across along slant =
    only (eqb 0 a) (only (leb 0 s && ltb s (k + 0)) (only across 1 + only along 1 + only slant 2))
    + only (eqb 0 a) (only (leb 1 s && ltb s (k + 1)) (only along 1))
    + only (eqb l a) (only (leb 0 s && ltb s (k + 0)) (only across 1))

abbrev pub fan_count : ℕ → ℕ → ℕ → ℕ → ℕ → ℕ → ℕ
fan_count r m a s e f =
    only (leb 1 a && ltb a (m + 1)) (only (eqb r s) (only (eqb e 1 && eqb f 0) 1))
    + only (eqb 0 a && eqb r s) (only (leb 1 e && ltb e (m + 1)) (only (eqb 0 f) 1))
    + only (eqb 0 a && eqb r s) (only (leb 2 e && ltb e (m + 2)) (only (eqb 0 f) 1))

abbrev pub ring_count : ℕ → ℕ → ℕ → ℕ → ℕ → ℕ → ℕ
ring_count k l a s e f =
    close_count k l a s (eqb e 0 && eqb f 1) (eqb e l && eqb f 0) (eqb e l && eqb f 1)
    + bands_count k l a s (eqb e 0 && eqb f 1) (eqb e 1 && eqb f 0) (eqb e 0 && eqb f k)

pub ring_most : (k l a s e f : ℕ) → 1 ≤ k → 2 ≤ l → s < suc k → f < suc k → ring_count k l a s e f ≤ 2
ring_most k l a s e f hk hl hs hf = grind (arith, nat_tests)

module _ (k a s e f : ℕ) (hk : 1 ≤ k) (hs : s < suc k) (hf : f < suc k) (hd : 1 ≤ suc k * e + f) where
  pub bands_is : (m : ℕ) →
      shared (suc k * a + s) (suc k * a + s + (suc k * e + f)) (bands k m)
      ≡ bands_count k m a s (eqb e 0 && eqb f 1) (eqb e 1 && eqb f 0) (eqb e 0 && eqb f k)
  bands_is m =
      rw (← (width (suc k) e f 0 1 1 hf (omega arith) (omega arith)), ← (width (suc k) e f 1 0 (suc k) hf (omega arith) (omega arith)), ← (width (suc k) e f 0 k k hf (omega arith) (omega arith)))
      (bands_shared k a s (suc k * e + f) hk hd hs m)

  pub ring_is : (l : ℕ) → 1 ≤ l →
      shared (suc k * a + s) (suc k * a + s + (suc k * e + f)) (each k (cell (suc k) l 0) ++ bands k l) ≡ ring_count k l a s e f
  ring_is l hl =
      shared_append _ _ (each k (cell (suc k) l 0)) (bands k l)
      ∙ ap₂ ◌+◌
      (rw (← (width (suc k) e f 0 1 1 hf (omega arith) (omega arith)), ← (width (suc k) e f l 0 (suc k * l) hf (omega arith) (omega arith)), ← (width (suc k) e f l 1 (suc k * l + 1) hf (omega arith) refl))
      (close_shared k a s (suc k * e + f) hk hd hs l hl))
      (bands_is l)

pub fan_is : (R r a s e f m : ℕ) → r < R → s < R → f < R → 1 ≤ R * e + f →
    shared (R * a + s) (R * a + s + (R * e + f)) (each m (λ i. tri (R * (i + 1) + r) r (R * (i + 2) + r) ∷ [])) ≡ fan_count r m a s e f
fan_is R r a s e f m hr hs hf hd =
    rw (← (width R e f 1 0 R hf (omega arith) (omega arith)))
    (fan_shared R r a s e f hr hs hf hd m)

-- points that are neighbours on a line of m + 1 points, and on a ring
abbrev pub Along : ℕ → ℕ → ℕ → Type 0
Along m a e = (e ≡ 1) × (a < m)

abbrev pub Round : ℕ → ℕ → ℕ → Type 0
Round l a e = Along l a e ⊎ ((a ≡ 0) × (e ≡ l))

module _ (k l a s e f : ℕ) (hk : 1 ≤ k) (hl : 2 ≤ l) (hs : s < suc k) (hf : f < suc k) where
  round_from : (e ≡ 1 → a < l) → ((e ≡ 1 → ⊥) → (a ≡ 0) × (e ≡ l)) → Round l a e
  round_from p q = elim (cases_eq e 1) [ inl h ↦ inl (h, p h) | inr h ↦ inr (q h) ]

  pub ring_one : ring_count k l a s e f ≡ 1 → (f ≡ 0) × Round l a e × ((s ≡ 0) ⊎ (s ≡ k))
  ring_one h = (
    grind (arith, nat_tests),
    round_from (λ x. grind (arith, nat_tests)) (λ x. (grind (arith, nat_tests), grind (arith, nat_tests))),
    elim (cases_eq s 0) [ inl x ↦ inl x | inr x ↦ inr (grind (arith, nat_tests)) ],
  )

  ring_side : f ≡ 0 → (s ≡ 0) ⊎ (s ≡ k) →
      ring_count k l a s e f ≡ only (eqb e 1 && ltb a l) 1 + only (eqb a 0 && eqb e l) 1
  ring_side ef es = grind (arith, nat_tests)

  -- a fan counts in its own row alone, and there it makes up what the ring lacks
  fan_off : (r m : ℕ) → (f ≡ 0 → s ≡ r → ⊥) → fan_count r m a s e f ≡ 0
  fan_off r m h = grind (arith, nat_tests)

  fan_side : f ≡ 0 → (c m : ℕ) → m + 1 ≡ l → c ≡ only (eqb e 1 && ltb a l) 1 + only (eqb a 0 && eqb e l) 1 →
      (c + fan_count s m a s e f ≤ 2) × (c + fan_count s m a s e f ≡ 1 → ⊥)
  fan_side ef c m em h = (grind (arith, nat_tests), λ x. grind (arith, nat_tests))

  -- a ring whose row r is filled: q is the other row on the outside
  pub filled_judged : (r q m : ℕ) → ((r ≡ 0) × (q ≡ k)) ⊎ ((r ≡ k) × (q ≡ 0)) → m + 1 ≡ l →
      (ring_count k l a s e f + fan_count r m a s e f ≤ 2)
      × (ring_count k l a s e f + fan_count r m a s e f ≡ 1 → (f ≡ 0) × Round l a e × (s ≡ q))
  filled_judged r q m hr em = elim (cases_eq f 0) [
    | inl ef ↦ elim (cases_eq s r) [
      | inl es ↦
          let c = fan_side ef (ring_count k l a s e f) m em (ring_side ef (elim hr [ inl x ↦ inl (omega arith) | inr x ↦ inr (omega arith) ])) in
          rw (← es) (c.0, λ h. absurd (c.1 h))
      | inr ns ↦
          let none = fan_off r m (λ x y. ns y) in (
            omega (arith, none, ring_most k l a s e f hk hl hs hf),
            λ h. let o = ring_one (omega (arith, none, h)) in (o.0, o.1, elim o.2 [ inl x ↦ omega arith | inr x ↦ omega arith ]),
          )
    ]
    | inr nf ↦
        let none = fan_off r m (λ x y. nf x) in
        (omega (arith, none, ring_most k l a s e f hk hl hs hf), λ h. absurd (nf (ring_one (omega (arith, none, h))).0))
  ]

-- each edge of these figures at which the count is one, seen from the rim
module _ (k l : ℕ) (hk : 1 ≤ k) (hl : 2 ≤ l) where
  pub ring_rim : (i r e : ℕ) → Round l i e → (r ≡ 0) ⊎ (r ≡ k) → ring_count k l i r e 0 ≡ 1
  ring_rim i r e near side = grind (arith, nat_tests)

  pub fan_rim : (i r q e m : ℕ) → Round l i e → (q ≡ r → ⊥) → fan_count r m i q e 0 ≡ 0
  fan_rim i r q e m near off = grind (arith, nat_tests)

-- a fan by itself, of one row
module _ (l m a s e f : ℕ) (em : m + 1 ≡ l) (hl : 2 ≤ l) (hs : s < 1) (hf : f < 1) where
  pub fan_most : fan_count 0 m a s e f ≤ 2
  fan_most = grind (arith, nat_tests)

  pub fan_one : fan_count 0 m a s e f ≡ 1 → Round l a e
  fan_one h = elim (cases_eq e 1) [ inl x ↦ inl (x, grind (arith, nat_tests)) | inr x ↦ inr (grind (arith, nat_tests), grind (arith, nat_tests)) ]

pub fan_alone : (l m i e : ℕ) → m + 1 ≡ l → 2 ≤ l → Round l i e → fan_count 0 m i 0 e 0 ≡ 1
fan_alone l m i e em hl near = grind (arith, nat_tests)

-- a line: the bands with their open ends
abbrev pub line_count : ℕ → ℕ → ℕ → ℕ → ℕ → ℕ → ℕ
line_count k m a s e f = bands_count k m a s (eqb e 0 && eqb f 1) (eqb e 1 && eqb f 0) (eqb e 0 && eqb f k)

abbrev pub Ending : ℕ → ℕ → Type 0
Ending m a = (a ≡ 0) ⊎ (a ≡ m)

module _ (k m a s e f : ℕ) (hk : 1 ≤ k) (hm : 1 ≤ m) (hs : s < suc k) (hf : f < suc k) where
  pub line_most : line_count k m a s e f ≤ 2
  line_most = grind (arith, nat_tests)

  pub line_one : line_count k m a s e f ≡ 1 →
      ((f ≡ 0) × Along m a e × ((s ≡ 0) ⊎ (s ≡ k))) ⊎ ((e ≡ 0) × (f ≡ 1) × (s < k) × Ending m a)
  line_one h = elim (cases_eq f 0) [
    | inl ef ↦ inl (ef, (grind (arith, nat_tests), grind (arith, nat_tests)), elim (cases_eq s 0) [ inl x ↦ inl x | inr x ↦ inr (grind (arith, nat_tests)) ])
    | inr nf ↦ inr (grind (arith, nat_tests), grind (arith, nat_tests), grind (arith, nat_tests), elim (cases_eq a 0) [ inl x ↦ inl x | inr x ↦ inr (grind (arith, nat_tests)) ])
  ]

module _ (k m : ℕ) (hk : 1 ≤ k) (hm : 1 ≤ m) where
  pub line_rim : (i r : ℕ) → i < m → (r ≡ 0) ⊎ (r ≡ k) → line_count k m i r 1 0 ≡ 1
  line_rim i r hi side = grind (arith, nat_tests)

  pub line_end : (i r : ℕ) → Ending m i → r < k → line_count k m i r 0 1 ≡ 1
  line_end i r end hr = grind (arith, nat_tests)

-- a thick line: its bands between its caps
abbrev cap_count : ℕ → ℕ → ℕ → ℕ → ℕ → ℕ
cap_count i a s e f = only (eqb i a) (only (ltb s 3) (only (eqb e 0 && eqb f 1) 1) + only (eqb s 0) (only (eqb e 0 && eqb f 2) 2 + only (eqb e 0 && eqb f 3) 1))

pub cap_is : (i a s e f : ℕ) → s < 4 → f < 4 → 1 ≤ 4 * e + f →
    shared (4 * a + s) (4 * a + s + (4 * e + f)) (cap i) ≡ cap_count i a s e f
cap_is i a s e f hs hf hd =
    rw (← (width 4 e f 0 1 1 hf (omega arith) refl), ← (width 4 e f 0 2 2 hf (omega arith) refl), ← (width 4 e f 0 3 3 hf (omega arith) refl))
    (cap_shared i a s (4 * e + f) hs hd)

abbrev pub capped_count : ℕ → ℕ → ℕ → ℕ → ℕ → ℕ
capped_count m a s e f = cap_count 0 a s e f + (line_count 3 m a s e f + cap_count m a s e f)

module _ (m a s e f : ℕ) (hm : 1 ≤ m) (hs : s < 4) (hf : f < 4) where
  cap_off : (i : ℕ) → (e ≡ 0 → ⊥) → cap_count i a s e f ≡ 0
  cap_off i ne = grind (arith, nat_tests)

  -- across the rows of one point
  capped_here : e ≡ 0 → (capped_count m a s e f ≤ 2) × (capped_count m a s e f ≡ 1 → (f ≡ 3) × (s ≡ 0) × Ending m a)
  capped_here ee = (
    grind (arith, nat_tests),
    λ h. (grind (arith, nat_tests), grind (arith, nat_tests), elim (cases_eq a 0) [ inl x ↦ inl x | inr x ↦ inr (grind (arith, nat_tests)) ]),
  )

  pub capped_most : capped_count m a s e f ≤ 2
  capped_most = elim (cases_eq e 0) [
    | inl ee ↦ (capped_here ee).0
    | inr ne ↦ omega (arith, cap_off 0 ne, cap_off m ne, line_most 3 m a s e f (omega arith) hm hs hf)
  ]

  pub capped_one : capped_count m a s e f ≡ 1 →
      ((f ≡ 0) × Along m a e × ((s ≡ 0) ⊎ (s ≡ 3))) ⊎ ((e ≡ 0) × (f ≡ 3) × (s ≡ 0) × Ending m a)
  capped_one h = elim (cases_eq e 0) [
    | inl ee ↦ let o = (capped_here ee).1 h in inr (ee, o.0, o.1, o.2)
    | inr ne ↦ elim (line_one 3 m a s e f (omega arith) hm hs hf (omega (arith, cap_off 0 ne, cap_off m ne, h)))
        [ inl x ↦ inl x | inr x ↦ absurd (ne x.0) ]
  ]

module _ (m : ℕ) (hm : 1 ≤ m) where
  pub capped_rim : (i r : ℕ) → i < m → (r ≡ 0) ⊎ (r ≡ 3) → capped_count m i r 1 0 ≡ 1
  capped_rim i r hi side = grind (arith, nat_tests)

  pub capped_end : (i : ℕ) → Ending m i → capped_count m i 0 0 3 ≡ 1
  capped_end i end = grind (arith, nat_tests)
