-- The promise about edges, for each kind of figure.
use Rattle.std.proofs.Common.{◌≡◌, ℕ, suc, ◌+◌, ◌-◌, ◌*◌, ◌<◌, ◌≤◌, ◌⊎◌, List, [], ◌∷◌, ◌++◌, refl, ◌∙◌, subst, ap₂, inl, inr, arith}
use Rattle.std.proofs.lemmas.Bool.{cases_eq}
use Rattle.std.proofs.lemmas.Bool.Decides.{nat_tests}
use Rattle.tessellator.specs.Kinds.{each, cell, fan, cap, skirt, skirts, plank, planks, triangles, fewest}
use Rattle.tessellator.specs.Triangles.{Triangle, tri}
use Rattle.tessellator.specs.declared.kind.Kind.{Kind}
use Rattle.tessellator.specs.declared.kind.Kind.TheVariants.{Nothing, HardFill, FeatheredFill, Line, Loop, Filled}
use Rattle.tessellator.specs.declared.stroke.Style.TheVariants.{Hard, Thin, Thick}
use Rattle.promise.specs.Rims.{shared, InRow, AtEnd, Around, Next, Ends, Rim, OfTwo}
use Rattle.promise.proofs.Bands.{skirt_cell, plank_cell}
use Rattle.promise.proofs.Counts.{ring_count, fan_count, line_count, capped_count, ring_is, bands_is, fan_is, cap_is, ring_most, ring_one, ring_rim, fan_rim, filled_judged, fan_most, fan_one, fan_alone, line_most, line_one, line_rim, line_end, capped_most, capped_one, capped_rim, capped_end}
use Rattle.promise.proofs.Gaps.{bands, ring}
use Rattle.promise.proofs.Judging.{Counted, two_elsewhere, one_next, one_around, one_end, row_around, row_next, rows_end}
use Rattle.promise.proofs.Ranges.{Kept, both_kept, figure_within}
use Rattle.promise.proofs.Sums.{shared_as, shared_append}

-- a ring of k + 1 rows: its first and last rows are its rim
module _ (k n : ℕ) (ts : List Triangle) (hk : 1 ≤ k) (hn : 3 ≤ n) where
  abbrev LoopRim : ℕ → ℕ → Type 0
  LoopRim u v = InRow (Around n) (suc k) 0 u v ⊎ InRow (Around n) (suc k) k u v

  loop_kept : Counted (suc k) ts (ring_count k (n - 1)) → (u v : ℕ) → Kept ts LoopRim u v
  loop_kept counted u v = (
    elim [
      | inl x ↦ one_around (suc k) n (omega arith) (omega arith) ts _ counted 0 (omega arith) (λ i e near. ring_rim k (n - 1) hk (omega arith) i 0 e near (inl refl)) u v x
      | inr x ↦ one_around (suc k) n (omega arith) (omega arith) ts _ counted k (omega arith) (λ i e near. ring_rim k (n - 1) hk (omega arith) i k e near (inr refl)) u v x
    ],
    two_elsewhere (suc k) n (omega arith) (omega arith) ts _ counted LoopRim
        (λ a s e f hs hf. (
          ring_most k (n - 1) a s e f hk (omega arith) hs hf,
          λ h. let o = ring_one k (n - 1) a s e f hk (omega arith) hs hf h in
              elim o.2 [
                | inl x ↦ inl (row_around (suc k) n a s e f (omega arith) 0 x o.0 o.1)
                | inr x ↦ inr (row_around (suc k) n a s e f (omega arith) k x o.0 o.1)
              ],
        ))
        u v,
  )

  -- the same with row r filled: the other outer row q is the rim
  filled_kept : (r q : ℕ) → ((r ≡ 0) × (q ≡ k)) ⊎ ((r ≡ k) × (q ≡ 0)) →
      Counted (suc k) ts (λ a s e f. ring_count k (n - 1) a s e f + fan_count r (n - 2) a s e f) →
      (u v : ℕ) → Kept ts (InRow (Around n) (suc k) q) u v
  filled_kept r q hr counted u v = (
    one_around (suc k) n (omega arith) (omega arith) ts _ counted q (elim hr [ inl x ↦ omega arith | inr x ↦ omega arith ])
        (λ i e near. ap₂ ◌+◌
        (ring_rim k (n - 1) hk (omega arith) i q e near (elim hr [ inl x ↦ inr x.1 | inr x ↦ inl x.1 ]))
        (fan_rim k (n - 1) hk (omega arith) i r q e (n - 2) near (λ x. elim hr [ inl y ↦ omega arith | inr y ↦ omega arith ])))
        u v,
    two_elsewhere (suc k) n (omega arith) (omega arith) ts _ counted (InRow (Around n) (suc k) q)
        (λ a s e f hs hf.
        let j = filled_judged k (n - 1) a s e f hk (omega arith) hs hf r q (n - 2) hr (omega arith) in
        (j.0, λ h. let o = j.1 h in row_around (suc k) n a s e f (omega arith) q o.2 o.0 o.1))
        u v,
  )

-- a line of k + 1 rows: its first and last rows, and at its ends each row with the next
module _ (k n : ℕ) (ts : List Triangle) (hk : 1 ≤ k) (hn : 2 ≤ n) (counted : Counted (suc k) ts (line_count k (n - 1))) where
  abbrev AtEnds : ℕ → ℕ → ℕ → Type 0
  AtEnds r u v = (r < k) × AtEnd n (suc k) r (r + 1) u v

  abbrev LineRim : (ℕ → ℕ → Type 0) → ℕ → ℕ → Type 0
  LineRim End u v = (InRow (Next n) (suc k) 0 u v ⊎ InRow (Next n) (suc k) k u v) ⊎ End u v

  line_kept : (End : ℕ → ℕ → Type 0) → ((u v : ℕ) → End u v → (r : ℕ) × AtEnds r u v) → ((r u v : ℕ) → AtEnds r u v → End u v) →
      (u v : ℕ) → Kept ts (LineRim End) u v
  line_kept End from to u v = (
    elim [
      | inl x ↦ elim x [
        | inl y ↦ one_next (suc k) n (omega arith) hn ts _ counted 0 (omega arith) (λ i hi. line_rim k (n - 1) hk (omega arith) i 0 hi (inl refl)) u v y
        | inr y ↦ one_next (suc k) n (omega arith) hn ts _ counted k (omega arith) (λ i hi. line_rim k (n - 1) hk (omega arith) i k hi (inr refl)) u v y
      ]
      | inr x ↦
          let (r, (hr, y)) = from u v x in
          one_end (suc k) n (omega arith) hn ts _ counted r 1 (r + 1) (omega arith) (omega arith) (omega arith) refl (λ i end. line_end k (n - 1) hk (omega arith) i r end hr) u v y
    ],
    two_elsewhere (suc k) n (omega arith) hn ts _ counted (LineRim End)
        (λ a s e f hs hf. (
          line_most k (n - 1) a s e f hk (omega arith) hs hf,
          λ h. elim (line_one k (n - 1) a s e f hk (omega arith) hs hf h) [
            | inl o ↦ inl (elim o.2 [
              | inl x ↦ inl (row_next (suc k) n a s e f hn 0 x o.0 o.1)
              | inr x ↦ inr (row_next (suc k) n a s e f hn k x o.0 o.1)
            ])
            | inr o ↦ inr (to s _ _ (o.2, rows_end (suc k) n a s e f hn s (s + 1) refl o.0 (omega arith) o.3))
          ],
        ))
        u v,
  )

-- a fan by itself: the polygon that it fills is its rim
polygon_kept : (n : ℕ) (ts : List Triangle) → 3 ≤ n → Counted 1 ts (fan_count 0 (n - 2)) → (u v : ℕ) → Kept ts (InRow (Around n) 1 0) u v
polygon_kept n ts hn counted u v = (
  one_around 1 n (omega arith) (omega arith) ts _ counted 0 (omega arith) (λ i e near. fan_alone (n - 1) (n - 2) i e (omega arith) (omega arith) near) u v,
  two_elsewhere 1 n (omega arith) (omega arith) ts _ counted (InRow (Around n) 1 0)
      (λ a s e f hs hf. (
        fan_most (n - 1) (n - 2) a s e f (omega arith) (omega arith) hs hf,
        λ h. row_around 1 n a s e f (omega arith) 0 (omega arith) (omega arith) (fan_one (n - 1) (n - 2) a s e f (omega arith) (omega arith) hs hf h),
      ))
      u v,
)

-- a thick line with its caps
capped_kept : (n : ℕ) (ts : List Triangle) → 2 ≤ n → Counted 4 ts (capped_count (n - 1)) → (u v : ℕ) → Kept ts (Rim (Line Thick) n) u v
capped_kept n ts hn counted u v = (
  elim [
    | inl x ↦ elim x [
      | inl y ↦ one_next 4 n (omega arith) hn ts _ counted 0 (omega arith) (λ i hi. capped_rim (n - 1) (omega arith) i 0 hi (inl refl)) u v y
      | inr y ↦ one_next 4 n (omega arith) hn ts _ counted 3 (omega arith) (λ i hi. capped_rim (n - 1) (omega arith) i 3 hi (inr refl)) u v y
    ]
    | inr x ↦ one_end 4 n (omega arith) hn ts _ counted 0 3 3 (omega arith) (omega arith) (omega arith) refl (λ i end. capped_end (n - 1) (omega arith) i end) u v x
  ],
  two_elsewhere 4 n (omega arith) hn ts _ counted (Rim (Line Thick) n)
      (λ a s e f hs hf. (
        capped_most (n - 1) a s e f (omega arith) hs hf,
        λ h. elim (capped_one (n - 1) a s e f (omega arith) hs hf h) [
          | inl o ↦ inl (elim o.2 [
            | inl x ↦ inl (row_next 4 n a s e f hn 0 x o.0 o.1)
            | inr x ↦ inr (row_next 4 n a s e f hn 3 x o.0 o.1)
          ])
          | inr o ↦ inr (rows_end 4 n a s e f hn 0 3 o.2 o.0 (omega arith) o.3)
        ],
      ))
      u v,
)

-- ---- the counts of each figure's triangles

planks_as : (u v n : ℕ) → shared u v (planks n) ≡ shared u v (bands 1 (n - 1))
planks_as u v n = shared_as u v (n - 1) _ _ (λ i. plank_cell u v i (i + 1))

skirts_as : (u v n : ℕ) → shared u v (skirts n) ≡ shared u v (bands 1 (n - 1))
skirts_as u v n = shared_as u v (n - 1) _ _ (λ i. skirt_cell u v i (i + 1))

corners_as : (u v i : ℕ) → shared u v (tri 0 (i + 1) (i + 2) ∷ []) ≡ shared u v (tri (1 * (i + 1) + 0) 0 (1 * (i + 2) + 0) ∷ [])
corners_as u v i = grind (arith, nat_tests)

hard_fill_counted : (n : ℕ) → 3 ≤ n → Counted 1 (triangles HardFill n) (fan_count 0 (n - 2))
hard_fill_counted n hn a s e f hs hf hd = shared_as _ _ (n - 2) _ _ (λ i. corners_as _ _ i) ∙ fan_is 1 0 a s e f (n - 2) (omega arith) hs hf hd

ring_counted : (k n : ℕ) → 1 ≤ k → 3 ≤ n → Counted (suc k) (ring k n) (ring_count k (n - 1))
ring_counted k n hk hn a s e f hs hf hd = ring_is k a s e f hk hs hf hd (n - 1) (omega arith)

loop_hard_counted : (n : ℕ) → 3 ≤ n → Counted 2 (triangles (Loop Hard) n) (ring_count 1 (n - 1))
loop_hard_counted n hn a s e f hs hf hd =
    let u : ℕ = 2 * a + s in
    let v : ℕ = 2 * a + s + (2 * e + f) in
    omega (
      arith,
      shared_append u v (planks n) (plank (n - 1) 0),
      planks_as u v n,
      plank_cell u v (n - 1) 0,
      shared_append u v (each 1 (cell 2 (n - 1) 0)) (bands 1 (n - 1)),
      ring_is 1 a s e f (omega arith) hs hf hd (n - 1) (omega arith),
    )

feathered_fill_counted : (n : ℕ) → 3 ≤ n →
    Counted 2 (triangles FeatheredFill n) (λ a s e f. ring_count 1 (n - 1) a s e f + fan_count 0 (n - 2) a s e f)
feathered_fill_counted n hn a s e f hs hf hd =
    let u : ℕ = 2 * a + s in
    let v : ℕ = 2 * a + s + (2 * e + f) in
    omega (
      arith,
      shared_append u v (fan 2 0 n) (skirt (n - 1) 0 ++ skirts n),
      shared_append u v (skirt (n - 1) 0) (skirts n),
      skirts_as u v n,
      skirt_cell u v (n - 1) 0,
      shared_append u v (each 1 (cell 2 (n - 1) 0)) (bands 1 (n - 1)),
      ring_is 1 a s e f (omega arith) hs hf hd (n - 1) (omega arith),
      fan_is 2 0 a s e f (n - 2) (omega arith) hs hf hd,
    )

filled_counted : (k n : ℕ) → 1 ≤ k → 3 ≤ n →
    Counted (suc k) (ring k n ++ fan (suc k) k n) (λ a s e f. ring_count k (n - 1) a s e f + fan_count k (n - 2) a s e f)
filled_counted k n hk hn a s e f hs hf hd =
    shared_append (suc k * a + s) (suc k * a + s + (suc k * e + f)) (ring k n) (fan (suc k) k n)
    ∙ ap₂ ◌+◌ (ring_counted k n hk hn a s e f hs hf hd) (fan_is (suc k) k a s e f (n - 2) (omega arith) hs hf hd)

line_hard_counted : (n : ℕ) → Counted 2 (triangles (Line Hard) n) (line_count 1 (n - 1))
line_hard_counted n a s e f hs hf hd = planks_as _ _ n ∙ bands_is 1 a s e f (omega arith) hs hf hd (n - 1)

line_thick_counted : (n : ℕ) → Counted 4 (triangles (Line Thick) n) (capped_count (n - 1))
line_thick_counted n a s e f hs hf hd =
    let u : ℕ = 4 * a + s in
    let v : ℕ = 4 * a + s + (4 * e + f) in
    shared_append u v (cap 0) (bands 3 (n - 1) ++ cap (n - 1))
    ∙ ap₂ ◌+◌ (cap_is 0 a s e f hs hf hd)
    (shared_append u v (bands 3 (n - 1)) (cap (n - 1)) ∙ ap₂ ◌+◌ (bands_is 3 a s e f (omega arith) hs hf hd (n - 1)) (cap_is (n - 1) a s e f hs hf hd))

-- ---- the promise about edges, for each kind

pub figure_kept : (k : Kind) (n u v : ℕ) → fewest k ≤ n → (OfTwo k n → ⊥) → Kept (triangles k n) (Rim k n) u v
figure_kept Nothing n u v hn many = (λ x. absurd x, λ edge off. omega (arith, edge))
figure_kept HardFill n u v hn many = polygon_kept n (triangles HardFill n) hn (hard_fill_counted n hn) u v
figure_kept FeatheredFill n u v hn many = filled_kept 1 n (triangles FeatheredFill n) (omega arith) hn 0 1 (inl (refl, refl)) (feathered_fill_counted n hn) u v
figure_kept (Line Hard) n u v hn many =
    line_kept 1 n (triangles (Line Hard) n) (omega arith) hn (line_hard_counted n) (Ends Hard n) (λ u v x. (0, (omega arith, x)))
    (λ r u v (hr, x). let e : r ≡ 0 = omega arith in subst (λ y. AtEnd n 2 y (y + 1) u v) e x) u v
figure_kept (Line Thin) n u v hn many =
    line_kept 2 n (triangles (Line Thin) n) (omega arith) hn (λ a s e f hs hf hd. bands_is 2 a s e f (omega arith) hs hf hd (n - 1)) (Ends Thin n)
    (λ u v. elim [ inl x ↦ (0, (omega arith, x)) | inr x ↦ (1, (omega arith, x)) ])
    (λ r u v (hr, x). elim (cases_eq r 0) [
      | inl e ↦ inl (subst (λ y. AtEnd n 3 y (y + 1) u v) e x)
      | inr ne ↦ let e : r ≡ 1 = omega arith in inr (subst (λ y. AtEnd n 3 y (y + 1) u v) e x)
    ]) u v
figure_kept (Line Thick) n u v hn many = capped_kept n (triangles (Line Thick) n) hn (line_thick_counted n) u v
figure_kept (Loop Hard) n u v hn many = loop_kept 1 n (triangles (Loop Hard) n) (omega arith) (omega arith) (loop_hard_counted n (omega arith)) u v
figure_kept (Loop Thin) n u v hn many = loop_kept 2 n (triangles (Loop Thin) n) (omega arith) (omega arith) (ring_counted 2 n (omega arith) (omega arith)) u v
figure_kept (Loop Thick) n u v hn many = loop_kept 3 n (triangles (Loop Thick) n) (omega arith) (omega arith) (ring_counted 3 n (omega arith) (omega arith)) u v
figure_kept (Filled Hard) n u v hn many =
    both_kept (2 * n) (triangles (Loop Hard) n) (triangles HardFill n) (Rim (Loop Hard) n) (Rim HardFill n) (figure_within (Loop Hard) n (omega arith))
    (loop_kept 1 n (triangles (Loop Hard) n) (omega arith) hn (loop_hard_counted n hn))
    (polygon_kept n (triangles HardFill n) hn (hard_fill_counted n hn)) u v
figure_kept (Filled Thin) n u v hn many = filled_kept 2 n (triangles (Filled Thin) n) (omega arith) (omega arith) 2 0 (inr (refl, refl)) (filled_counted 2 n (omega arith) (omega arith)) u v
figure_kept (Filled Thick) n u v hn many = filled_kept 3 n (triangles (Filled Thick) n) (omega arith) (omega arith) 3 0 (inr (refl, refl)) (filled_counted 3 n (omega arith) (omega arith)) u v
