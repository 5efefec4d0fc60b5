-- Sums over the numbers below a bound, and how many triangles of joined lists share an edge.
use Rattle.std.proofs.Common.{◌≡◌, ℕ, zero, suc, ◌+◌, ◌*◌, ◌<◌, ◌≤◌, Bool, true, false, cond, ◌&&◌, eqb, ltb, leb, List, [], ◌∷◌, ◌++◌, sym, refl, ap, ◌∙◌, ap₂, inl, inr, mul-le-mul_left, arith}
use Rattle.std.proofs.lemmas.Bool.{cases_order}
use Rattle.std.proofs.lemmas.Bool.Decides.{nat_tests}
use Rattle.tessellator.specs.Kinds.{each}
use Rattle.tessellator.specs.Triangles.{Triangle}
use Rattle.promise.specs.Rims.{shared}

-- ---- sums

-- f 0 + f 1 + .. + f (k - 1)
abbrev pub total : ℕ → (ℕ → ℕ) → ℕ
total zero f = 0
total (suc k) f = total k f + f k

pub total_same : (k : ℕ) (f g : ℕ → ℕ) → ((i : ℕ) → i < k → f i ≡ g i) → total k f ≡ total k g
total_same zero f g h = refl
total_same (suc k) f g h = ap₂ ◌+◌ (total_same k f g (λ i l. h i (omega arith))) (h k (omega arith))

total_add : (k : ℕ) (f g : ℕ → ℕ) → total k (λ i. f i + g i) ≡ total k f + total k g
total_add zero f g = refl
total_add (suc k) f g = omega (arith, total_add k f g)

pub total_spread : (k : ℕ) (f g h : ℕ → ℕ) → total k (λ i. f i + g i + h i) ≡ total k f + total k g + total k h
total_spread k f g h = total_add k (λ i. f i + g i) h ∙ ap (λ x. x + total k h) (total_add k f g)

pub grid_spread : (m k : ℕ) (f g h : ℕ → ℕ → ℕ) →
    total m (λ i. total k (λ r. f i r + g i r + h i r)) ≡ total m (λ i. total k (f i)) + total m (λ i. total k (g i)) + total m (λ i. total k (h i))
grid_spread m k f g h =
    total_same m _ _ (λ i l. total_spread k (f i) (g i) (h i))
    ∙ total_spread m (λ i. total k (f i)) (λ i. total k (g i)) (λ i. total k (h i))

total_none : (k : ℕ) → total k (λ i. 0) ≡ 0
total_none zero = refl
total_none (suc k) = omega (arith, total_none k)

pub total_if : (k : ℕ) (b : Bool) (f : ℕ → ℕ) → total k (λ i. cond b (f i) 0) ≡ cond b (total k f) 0
total_if k true f = refl
total_if k false f = total_none k

-- ---- values that count at one number only

-- of the numbers p, p + 1, .., p + k - 1 at most one is a
total_at : (k p a w : ℕ) → total k (λ i. cond (eqb (i + p) a) w 0) ≡ cond (leb p a && ltb a (k + p)) w 0
total_at zero p a w = grind (arith, nat_tests)
total_at (suc k) p a w = let h = total_at k p a w in grind (arith, nat_tests, h)

-- a number has one quotient and one remainder
before : (R i r a : ℕ) → r < R → i < a → R * i + r < R * a
before R i r a hr h = omega (arith, mul-le-mul_left {m = suc i} {n = a} R h)

pub digits : (R i r a s : ℕ) → r < R → s < R → eqb (R * i + r) (R * a + s) ≡ (eqb i a && eqb r s)
digits R i r a s hr hs = elim (cases_order i a) [
  | inl e ↦ rw e (grind (arith, nat_tests))
  | inr o ↦ elim o [
    | inl h ↦ let l = before R i r a hr h in grind (arith, nat_tests, l)
    | inr h ↦ let l = before R a s i hs h in grind (arith, nat_tests, l)
  ]
]

row_if : (k q s w : ℕ) (b : Bool) → total k (λ r. cond (b && eqb (r + q) s) w 0) ≡ cond b (cond (leb q s && ltb s (k + q)) w 0) 0
row_if k q s w true = total_at k q s w
row_if k q s w false = total_none k

-- one row of a grid
pub row_at : (R k p q a s w : ℕ) → k + q ≤ R → s < R →
    total k (λ r. cond (eqb (R * p + (r + q)) (R * a + s)) w 0) ≡ cond (eqb p a) (cond (leb q s && ltb s (k + q)) w 0) 0
row_at R k p q a s w fits hs =
    total_same k _ _ (λ r h. ap (λ b. cond b w 0) (digits R p (r + q) a s (omega arith) hs)) ∙ row_if k q s w (eqb p a)

pub grid_at : (R m k p q a s w : ℕ) → k + q ≤ R → s < R →
    total m (λ i. total k (λ r. cond (eqb (R * (i + p) + (r + q)) (R * a + s)) w 0)) ≡ cond (leb p a && ltb a (m + p)) (cond (leb q s && ltb s (k + q)) w 0) 0
grid_at R m k p q a s w fits hs =
    total_same m _ _ (λ i h. row_at R k (i + p) q a s w fits hs) ∙ total_at m p a (cond (leb q s && ltb s (k + q)) w 0)

column_if : (m p a w : ℕ) (b : Bool) → total m (λ i. cond (eqb (i + p) a && b) w 0) ≡ cond (leb p a && ltb a (m + p)) (cond b w 0) 0
column_if m p a w true = total_same m _ _ (λ i h. grind (arith, nat_tests)) ∙ total_at m p a w
column_if m p a w false = total_same m _ _ (λ i h. grind (arith, nat_tests)) ∙ total_at m p a 0

pub column_at : (R m p q a s w : ℕ) → q < R → s < R →
    total m (λ i. cond (eqb (R * (i + p) + q) (R * a + s)) w 0) ≡ cond (leb p a && ltb a (m + p)) (cond (eqb q s) w 0) 0
column_at R m p q a s w hq hs =
    total_same m _ _ (λ i h. ap (λ b. cond b w 0) (digits R (i + p) q a s hq hs)) ∙ column_if m p a w (eqb q s)

-- ---- triangles of joined lists

module _ (u v : ℕ) where
  pub shared_append : (s t : List Triangle) → shared u v (s ++ t) ≡ shared u v s + shared u v t
  shared_append [] t = omega arith
  shared_append (x ∷ s) t = omega (arith, shared_append s t)

  pub shared_each : (k : ℕ) (f : ℕ → List Triangle) → shared u v (each k f) ≡ total k (λ i. shared u v (f i))
  shared_each zero f = refl
  shared_each (suc k) f = shared_append (each k f) (f k) ∙ ap (λ x. x + shared u v (f k)) (shared_each k f)

  pub shared_as : (k : ℕ) (f g : ℕ → List Triangle) → ((i : ℕ) → shared u v (f i) ≡ shared u v (g i)) → shared u v (each k f) ≡ shared u v (each k g)
  shared_as k f g same = shared_each k f ∙ total_same k _ _ (λ i h. same i) ∙ sym (shared_each k g)
