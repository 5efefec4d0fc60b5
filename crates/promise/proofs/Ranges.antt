-- Where the vertices of triangles lie, and how many raised triangles share an edge.
use Rattle.std.proofs.Common.{◌≡◌, ℕ, zero, suc, ◌+◌, ◌-◌, ◌*◌, ◌<◌, ◌≤◌, eqb, ◌⊎◌, List, [], ◌∷◌, ◌++◌, sym, refl, ◌∙◌, subst₂, inl, inr, mul-le-mul_left, arith}
use Rattle.std.proofs.lemmas.Bool.{cases_lt}
use Rattle.std.proofs.lemmas.Bool.Decides.{nat_tests}
use Rattle.tessellator.specs.Kinds.{each, cell, fan, cap, skirt, skirts, plank, planks, polygon, triangles, vertex_count, fewest}
use Rattle.tessellator.specs.Triangles.{Triangle, tri, raised}
use Rattle.tessellator.specs.declared.kind.Kind.{Kind}
use Rattle.tessellator.specs.declared.kind.Kind.TheVariants.{Nothing, HardFill, FeatheredFill, Line, Loop, Filled}
use Rattle.tessellator.specs.declared.stroke.Style.TheVariants.{Hard, Thin, Thick}
use Rattle.promise.specs.Rims.{shared, Edge, Raised}
use Rattle.promise.proofs.Gaps.{bands, ring}
use Rattle.promise.proofs.Sums.{shared_append}

-- every corner is below b
abbrev pub Within : ℕ → List Triangle → Type 0
Within b [] = Unit {0}
Within b (tri x y z ∷ ts) = (x < b) × (y < b) × (z < b) × Within b ts

within_append : (b : ℕ) (s t : List Triangle) → Within b s → Within b t → Within b (s ++ t)
within_append b [] t hs ht = ht
within_append b (tri x y z ∷ s) t (hx, hy, hz, hs) ht = (hx, hy, hz, within_append b s t hs ht)

within_each : (b k : ℕ) (f : ℕ → List Triangle) → ((i : ℕ) → i < k → Within b (f i)) → Within b (each k f)
within_each b zero f h = tt
within_each b (suc k) f h = within_append b (each k f) (f k) (within_each b k f (λ i l. h i (omega arith))) (h k (omega arith))

within_wider : (b c : ℕ) (ts : List Triangle) → b ≤ c → Within b ts → Within c ts
within_wider b c [] h w = tt
within_wider b c (tri x y z ∷ ts) h (hx, hy, hz, w) = (omega arith, omega arith, omega arith, within_wider b c ts h w)

pub within_raised : (b c : ℕ) (ts : List Triangle) → Within b ts → Within (c + b) (raised c ts)
within_raised b c [] w = tt
within_raised b c (tri x y z ∷ ts) (hx, hy, hz, w) = (omega arith, omega arith, omega arith, within_raised b c ts w)

-- a vertex outside is in no triangle
pub none_above : (b u v : ℕ) (ts : List Triangle) → Within b ts → (b ≤ u) ⊎ (b ≤ v) → shared u v ts ≡ 0
none_above b u v [] w h = refl
none_above b u v (tri x y z ∷ ts) (hx, hy, hz, w) h = let i = none_above b u v ts w h in grind (arith, nat_tests, i)

pub none_below : (b u v : ℕ) (ts : List Triangle) → (u < b) ⊎ (v < b) → shared u v (raised b ts) ≡ 0
none_below b u v [] h = refl
none_below b u v (tri x y z ∷ ts) h = let i = none_below b u v ts h in grind (arith, nat_tests, i)

same_corner : (b x u : ℕ) → eqb (b + x) (b + u) ≡ eqb x u
same_corner b x u = grind (arith, nat_tests)

shared_raised : (b u v : ℕ) (ts : List Triangle) → shared (b + u) (b + v) (raised b ts) ≡ shared u v ts
shared_raised b u v [] = refl
shared_raised b u v (tri x y z ∷ ts) =
    let i = shared_raised b u v ts in
    simp (same_corner, i)

-- each figure's corners are below its size
pub vertex_below : (R i r n : ℕ) → i < n → r < R → R * i + r < R * n
vertex_below R i r n hi hr = omega (arith, mul-le-mul_left {m = suc i} {n = n} R hi)

cell_within : (k n i j r : ℕ) → i < n → j < n → r < k → Within (suc k * n) (cell (suc k) i j r)
cell_within k n i j r hi hj hr =
    let at : (i r : ℕ) → i < n → r < suc k → suc k * i + r < suc k * n = λ i r h l. vertex_below (suc k) i r n h l in (
      at i r hi (omega arith),
      at i (r + 1) hi (omega arith),
      at j r hj (omega arith),
      (at i (r + 1) hi (omega arith), at j r hj (omega arith), at j (r + 1) hj (omega arith), tt),
    )

bands_within : (k n : ℕ) → 1 ≤ n → Within (suc k * n) (bands k (n - 1))
bands_within k n hn = within_each (suc k * n) (n - 1) _ (λ i hi. within_each (suc k * n) k _ (λ r hr. cell_within k n i (i + 1) r (omega arith) (omega arith) hr))

ring_within : (k n : ℕ) → 1 ≤ n → Within (suc k * n) (ring k n)
ring_within k n hn =
    within_append (suc k * n) (each k (cell (suc k) (n - 1) 0)) (bands k (n - 1))
    (within_each (suc k * n) k _ (λ r hr. cell_within k n (n - 1) 0 r (omega arith) (omega arith) hr)) (bands_within k n hn)

fan_within : (R r n : ℕ) → 2 ≤ n → r < R → Within (R * n) (fan R r n)
fan_within R r n hn hr = within_each (R * n) (n - 2) _ (λ i hi.
    (vertex_below R (i + 1) r n (omega arith) hr, omega (arith, vertex_below R 0 r n (omega arith) hr), vertex_below R (i + 2) r n (omega arith) hr, tt))

polygon_within : (n : ℕ) → Within n (polygon n)
polygon_within n = within_each n (n - 2) _ (λ i hi. (omega arith, omega arith, omega arith, tt))

plank_within : (n i j : ℕ) → i < n → j < n → Within (2 * n) (plank i j)
plank_within n i j hi hj = (omega arith, omega arith, omega arith, (omega arith, omega arith, omega arith, tt))

planks_within : (n : ℕ) → 1 ≤ n → Within (2 * n) (planks n)
planks_within n hn = within_each (2 * n) (n - 1) _ (λ i hi. plank_within n i (i + 1) (omega arith) (omega arith))

loop_within : (n : ℕ) → 1 ≤ n → Within (2 * n) (planks n ++ plank (n - 1) 0)
loop_within n hn = within_append (2 * n) (planks n) (plank (n - 1) 0) (planks_within n hn) (plank_within n (n - 1) 0 (omega arith) (omega arith))

pub figure_within : (k : Kind) (n : ℕ) → fewest k ≤ n → Within (vertex_count k n) (triangles k n)
figure_within Nothing n hn = tt
figure_within HardFill n hn = polygon_within n
figure_within FeatheredFill n hn =
    within_append (2 * n) (fan 2 0 n) (skirt (n - 1) 0 ++ skirts n) (fan_within 2 0 n (omega arith) (omega arith))
    (within_append (2 * n) (skirt (n - 1) 0) (skirts n) (skirt_within (n - 1) 0 (omega arith) (omega arith))
    (within_each (2 * n) (n - 1) _ (λ i hi. skirt_within i (i + 1) (omega arith) (omega arith))))
  where
    skirt_within : (i j : ℕ) → i < n → j < n → Within (2 * n) (skirt i j)
    skirt_within i j hi hj = (omega arith, omega arith, omega arith, (omega arith, omega arith, omega arith, tt))
figure_within (Line Hard) n hn = planks_within n (omega arith)
figure_within (Line Thin) n hn = bands_within 2 n (omega arith)
figure_within (Line Thick) n hn =
    within_append (4 * n) (cap 0) (bands 3 (n - 1) ++ cap (n - 1)) (cap_within 0 (omega arith))
    (within_append (4 * n) (bands 3 (n - 1)) (cap (n - 1)) (bands_within 3 n (omega arith)) (cap_within (n - 1) (omega arith)))
  where
    cap_within : (i : ℕ) → i < n → Within (4 * n) (cap i)
    cap_within i hi = (omega arith, omega arith, omega arith, (omega arith, omega arith, omega arith, tt))
figure_within (Loop Hard) n hn = loop_within n (omega arith)
figure_within (Loop Thin) n hn = ring_within 2 n (omega arith)
figure_within (Loop Thick) n hn = ring_within 3 n (omega arith)
figure_within (Filled Hard) n hn =
    within_append (2 * n + n) (planks n ++ plank (n - 1) 0) (raised (2 * n) (polygon n))
    (within_wider (2 * n) (2 * n + n) (planks n ++ plank (n - 1) 0) (omega arith) (loop_within n (omega arith)))
    (within_raised n (2 * n) (polygon n) (polygon_within n))
figure_within (Filled Thin) n hn = within_append (3 * n) (ring 2 n) (fan 3 2 n) (ring_within 2 n (omega arith)) (fan_within 3 2 n hn (omega arith))
figure_within (Filled Thick) n hn = within_append (4 * n) (ring 3 n) (fan 4 3 n) (ring_within 3 n (omega arith)) (fan_within 4 3 n hn (omega arith))

-- the promise for triangles with a rim
abbrev pub Kept : List Triangle → (ℕ → ℕ → Type 0) → ℕ → ℕ → Type 0
Kept ts Rim u v = (Rim u v → shared u v ts ≡ 1) × (Edge ts u v → (Rim u v → ⊥) → shared u v ts ≡ 2)

-- it holds of raised triangles with the raised rim
pub raised_kept : (b : ℕ) (ts : List Triangle) (Rim : ℕ → ℕ → Type 0) → ((u v : ℕ) → Kept ts Rim u v) → (u v : ℕ) → Kept (raised b ts) (Raised b Rim) u v
raised_kept b ts Rim kept u v = (
  λ (x, y, eu, ev, r). subst₂ (λ p q. shared p q (raised b ts) ≡ 1) (sym eu) (sym ev) (shared_raised b x y ts ∙ (kept x y).0 r),
  λ edge off. elim (cases_lt u b) [
    | inl h ↦ absurd (let z = none_below b u v ts (inl h) in omega (arith, edge, z))
    | inr h ↦
        let eu : u ≡ b + (u - b) = omega arith in
        let ev : v ≡ b + (v - b) = omega (arith, edge) in
        let same : shared u v (raised b ts) ≡ shared (u - b) (v - b) ts =
        subst₂ (λ p q. shared p q (raised b ts) ≡ shared (u - b) (v - b) ts) (sym eu) (sym ev) (shared_raised b (u - b) (v - b) ts) in
        same ∙ (kept (u - b) (v - b)).1 (omega (arith, edge), omega (arith, edge, same)) (λ r. off (u - b, v - b, eu, ev, r))
  ],
)

-- and of two lists, the second raised past the first
pub both_kept : (b : ℕ) (s t : List Triangle) (P Q : ℕ → ℕ → Type 0) → Within b s →
    ((u v : ℕ) → Kept s P u v) → ((u v : ℕ) → Kept t Q u v) → (u v : ℕ) → Kept (s ++ raised b t) (λ u v. P u v ⊎ Raised b Q u v) u v
both_kept b s t P Q w hs ht u v =
    let sum = shared_append u v s (raised b t) in
    let kt = raised_kept b t Q ht u v in (
      elim [
        | inl p ↦
            let one = (hs u v).0 p in
            elim (cases_lt u b) [
              | inl h ↦ omega (arith, sum, one, none_below b u v t (inl h))
              | inr h ↦ absurd (let z = none_above b u v s w (inl h) in omega (arith, one, z))
            ]
        | inr q ↦ omega (arith, sum, kt.0 q, none_above b u v s w (inl (let (x, y, eu, ev, r) = q in omega (arith, eu))))
      ],
      λ edge off. elim (cases_lt u b) [
        | inl h ↦
            let z = none_below b u v t (inl h) in
            let c : shared u v (s ++ raised b t) ≡ shared u v s = omega (arith, sum, z) in
            c ∙ (hs u v).1 (edge.0, omega (arith, edge, c)) (λ p. off (inl p))
        | inr h ↦
            let z = none_above b u v s w (inl h) in
            let c : shared u v (s ++ raised b t) ≡ shared u v (raised b t) = omega (arith, sum, z) in
            c ∙ kt.1 (edge.0, omega (arith, edge, c)) (λ q. off (inr q))
      ],
    )
