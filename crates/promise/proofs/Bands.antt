-- How many triangles of bands, fans and caps share an edge.
use Rattle.std.proofs.Common.{◌≡◌, ℕ, suc, ◌+◌, ◌*◌, ◌<◌, ◌≤◌, Bool, cond, ◌&&◌, eqb, ltb, leb, [], ◌∷◌, ◌∙◌, ap₂, mul-le-mul_left, arith}
use Rattle.std.proofs.lemmas.Bool.Decides.{nat_tests}
use Rattle.tessellator.specs.Kinds.{each, cell, cap, skirt, plank}
use Rattle.tessellator.specs.Triangles.{tri}
use Rattle.promise.specs.Rims.{shared}
use Rattle.promise.proofs.Gaps.{bands}
use Rattle.promise.proofs.Sums.{total, total_same, total_spread, total_if, column_at, grid_spread, grid_at, row_at, shared_each, digits}

-- An edge has its lesser end at point a, row s of R = k + 1 rows, and its greater end d = R * e + f numbers on.

-- the count w where the test passes
abbrev pub only : Bool → ℕ → ℕ
only b w = cond b w 0

-- a cell between the points i and i + 1, and one between the last point and the first, seen from the edge's lesser end u
module _ (k x u d : ℕ) where
  cell_next : (y z w x' y' z' : ℕ) → y ≡ x + 1 → z ≡ x + suc k → w ≡ x + suc k + 1 → x' ≡ x → y' ≡ x + 1 → z' ≡ x + suc k → 1 ≤ k → 1 ≤ d →
      shared u (u + d) (tri x y z ∷ tri y z w ∷ [])
      ≡ only (eqb x' u) (only (eqb d 1) 1 + only (eqb d (suc k)) 1)
      + only (eqb y' u) (only (eqb d (suc k)) 1 + only (eqb d k) 2)
      + only (eqb z' u) (only (eqb d 1) 1)
  cell_next y z w x' y' z' ey ez ew ex' ey' ez' hk hd = grind (arith, nat_tests)

  -- x is the corner at the first point, and the last point is l numbers on
  cell_last : (l y z w x' y' z' : ℕ) → y ≡ x + 1 → z ≡ x + l → w ≡ x + l + 1 → x' ≡ x → y' ≡ x + 1 → z' ≡ x + l → 2 ≤ l → 1 ≤ d →
      shared u (u + d) (tri z w x ∷ tri w x y ∷ [])
      ≡ only (eqb x' u) (only (eqb d 1) 1 + only (eqb d l) 1 + only (eqb d (l + 1)) 2)
      + only (eqb y' u) (only (eqb d l) 1)
      + only (eqb z' u) (only (eqb d 1) 1)
  cell_last l y z w x' y' z' ey ez ew ex' ey' ez' hl hd = grind (arith, nat_tests)

-- w for the points from p on, m of them, and the rows from q on, k of them
abbrev pub block : ℕ → ℕ → ℕ → ℕ → ℕ → ℕ → ℕ → ℕ
block a s p m q k w = only (leb p a && ltb a (m + p)) (only (leb q s && ltb s (k + q)) w)

module _ (k a s d : ℕ) (hk : 1 ≤ k) (hd : 1 ≤ d) (hs : s < suc k) where
  pub bands_shared : (m : ℕ) →
      shared (suc k * a + s) (suc k * a + s + d) (bands k m)
      ≡ block a s 0 m 0 k (only (eqb d 1) 1 + only (eqb d (suc k)) 1)
      + block a s 0 m 1 k (only (eqb d (suc k)) 1 + only (eqb d k) 2)
      + block a s 1 m 0 k (only (eqb d 1) 1)
  bands_shared m =
      let u : ℕ = suc k * a + s in
      shared_each u (u + d) m (λ i. each k (cell (suc k) i (i + 1)))
      ∙ total_same m _ _ (λ i hi. shared_each u (u + d) k (cell (suc k) i (i + 1))
      ∙ total_same k _ _ (λ r hr. cell_next k (suc k * i + r) u d _ _ _ (suc k * (i + 0) + (r + 0)) (suc k * (i + 0) + (r + 1)) (suc k * (i + 1) + (r + 0))
      (omega arith) (omega arith) (omega arith) (omega arith) (omega arith) (omega arith) hk hd))
      ∙ grid_spread m k _ _ _
      ∙ ap₂ ◌+◌ (ap₂ ◌+◌ (grid_at (suc k) m k 0 0 a s _ (omega arith) hs) (grid_at (suc k) m k 0 1 a s _ (omega arith) hs)) (grid_at (suc k) m k 1 0 a s _ (omega arith) hs)

  pub close_shared : (l : ℕ) → 1 ≤ l →
      shared (suc k * a + s) (suc k * a + s + d) (each k (cell (suc k) l 0))
      ≡ only (eqb 0 a) (only (leb 0 s && ltb s (k + 0)) (only (eqb d 1) 1 + only (eqb d (suc k * l)) 1 + only (eqb d (suc k * l + 1)) 2))
      + only (eqb 0 a) (only (leb 1 s && ltb s (k + 1)) (only (eqb d (suc k * l)) 1))
      + only (eqb l a) (only (leb 0 s && ltb s (k + 0)) (only (eqb d 1) 1))
  close_shared l hl =
      let u : ℕ = suc k * a + s in
      let far : suc k * 1 ≤ suc k * l = mul-le-mul_left (suc k) hl in
      shared_each u (u + d) k (cell (suc k) l 0)
      ∙ total_same k _ _ (λ r hr. cell_last k (suc k * 0 + r) u d (suc k * l) _ _ _ (suc k * 0 + (r + 0)) (suc k * 0 + (r + 1)) (suc k * l + (r + 0))
      (omega arith) (omega arith) (omega arith) (omega arith) (omega arith) (omega arith) (omega (arith, far)) hd)
      ∙ total_spread k _ _ _
      ∙ ap₂ ◌+◌ (ap₂ ◌+◌ (row_at (suc k) k 0 0 a s _ (omega arith) hs) (row_at (suc k) k 0 1 a s _ (omega arith) hs)) (row_at (suc k) k l 0 a s _ (omega arith) hs)

-- a triangle of a fan, whose middle corner x is the first point's
fan_next : (R x g u d y z y' x' h : ℕ) → y ≡ x + g → z ≡ x + g + R → y' ≡ y → x' ≡ x → h ≡ g + R → 1 ≤ R → 1 ≤ g → 1 ≤ d →
    shared u (u + d) (tri y x z ∷ []) ≡ only (eqb y' u) (only (eqb d R) 1) + only (eqb x' u) (only (eqb g d) 1) + only (eqb x' u) (only (eqb h d) 1)
fan_next R x g u d y z y' x' h ey ez ey' ex' eh h_r hg hd = grind (arith, nat_tests)

module _ (R r a s e f : ℕ) (hr : r < R) (hs : s < R) (hf : f < R) (hd : 1 ≤ R * e + f) where
  pub fan_shared : (m : ℕ) →
      shared (R * a + s) (R * a + s + (R * e + f)) (each m (λ i. tri (R * (i + 1) + r) r (R * (i + 2) + r) ∷ []))
      ≡ only (leb 1 a && ltb a (m + 1)) (only (eqb r s) (only (eqb (R * e + f) R) 1))
      + only (eqb 0 a && eqb r s) (only (leb 1 e && ltb e (m + 1)) (only (eqb 0 f) 1))
      + only (eqb 0 a && eqb r s) (only (leb 2 e && ltb e (m + 2)) (only (eqb 0 f) 1))
  fan_shared m =
      let u : ℕ = R * a + s in
      let d : ℕ = R * e + f in
      shared_each u (u + d) m (λ i. tri (R * (i + 1) + r) r (R * (i + 2) + r) ∷ [])
      ∙ total_same m _ _ (λ i hi. fan_next R r (R * (i + 1) + 0) u d _ _ (R * (i + 1) + r) (R * 0 + r) (R * (i + 2) + 0)
      (omega arith) (omega arith) (omega arith) (omega arith) (omega arith) (omega arith)
      (omega (arith, mul-le-mul_left {m = 1} {n = i + 1} R (omega arith))) hd)
      ∙ total_spread m _ _ _
      ∙ ap₂ ◌+◌ (ap₂ ◌+◌ (column_at R m 1 r a s _ hr hs) (from_first 1)) (from_first 2)
    where
      from_first : (p : ℕ) →
          total m (λ i. only (eqb (R * 0 + r) (R * a + s)) (only (eqb (R * (i + p) + 0) (R * e + f)) 1))
          ≡ only (eqb 0 a && eqb r s) (only (leb p e && ltb e (m + p)) (only (eqb 0 f) 1))
      from_first p = total_if m (eqb (R * 0 + r) (R * a + s)) _ ∙ ap₂ only (digits R 0 r a s hr hs) (column_at R m p 0 e f 1 (omega arith) hf)

-- the end of a thick line
pub cap_shared : (i a s d : ℕ) → s < 4 → 1 ≤ d →
    shared (4 * a + s) (4 * a + s + d) (cap i) ≡ only (eqb i a) (only (ltb s 3) (only (eqb d 1) 1) + only (eqb s 0) (only (eqb d 2) 2 + only (eqb d 3) 1))
cap_shared i a s d hs hd = grind (arith, nat_tests)

-- skirts and planks are cells with their corners in another order
pub skirt_cell : (u v i j : ℕ) → shared u v (skirt i j) ≡ shared u v (cell 2 i j 0)
skirt_cell u v i j = grind (arith, nat_tests)

pub plank_cell : (u v i j : ℕ) → shared u v (plank i j) ≡ shared u v (cell 2 i j 0)
plank_cell u v i j = grind (arith, nat_tests)
