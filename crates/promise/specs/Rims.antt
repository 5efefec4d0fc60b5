-- The edges of triangles, and the rim of each kind of figure. Of two vertices that an edge joins, the lesser is named first.
use Rattle.std.specs.Prelude.{◌≡◌, ℕ, ◌+◌, ◌-◌, ◌*◌, ◌<◌, Bool, if◌then◌else◌, ◌&&◌, ◌||◌, ◌⊎◌, List, [], ◌∷◌, ◌==◌}
use Rattle.tessellator.specs.Kinds.{rows}
use Rattle.tessellator.specs.Triangles.{Triangle, tri}
use Rattle.tessellator.specs.declared.kind.Kind.{Kind}
use Rattle.tessellator.specs.declared.kind.Kind.TheVariants.{Nothing, HardFill, FeatheredFill, Line, Loop, Filled}
use Rattle.tessellator.specs.declared.stroke.Style.{Style}
use Rattle.tessellator.specs.declared.stroke.Style.TheVariants.{Hard, Thin, Thick}

-- ---- edges

-- u is a corner of the triangle
abbrev pub corner : ℕ → Triangle → Bool
corner u (tri x y z) = x == u || (y == u || z == u)

-- how many triangles of the list have both u and v as corners
abbrev pub shared : ℕ → ℕ → List Triangle → ℕ
shared u v [] = 0
shared u v (t ∷ ts) = (if corner u t && corner v t then 1 else 0) + shared u v ts

-- two different corners of one triangle
abbrev pub Edge : List Triangle → ℕ → ℕ → Type 0
Edge ts u v = (u < v) × (0 < shared u v ts)

-- the pairs of a relation, raised by b
abbrev pub Raised : ℕ → (ℕ → ℕ → Type 0) → ℕ → ℕ → Type 0
Raised b Pair u v = (x : ℕ) × (y : ℕ) × (u ≡ b + x) × (v ≡ b + y) × Pair x y

-- ---- rims

-- Neighbours are consecutive points, and around a loop of n points the first and the last too.
abbrev pub Next : ℕ → ℕ → ℕ → Type 0
Next n i j = (j ≡ i + 1) × (j < n)

abbrev pub Around : ℕ → ℕ → ℕ → Type 0
Around n i j = Next n i j ⊎ ((i ≡ 0) × (j + 1 ≡ n))

-- u and v join neighbours in row r of R rows
abbrev pub InRow : (ℕ → ℕ → Type 0) → ℕ → ℕ → ℕ → ℕ → Type 0
InRow Near R r u v = (i : ℕ) × (j : ℕ) × Near i j × (u ≡ R * i + r) × (v ≡ R * j + r)

-- u and v join the rows r and q of R rows at an end of a line of n points
abbrev pub AtEnd : ℕ → ℕ → ℕ → ℕ → ℕ → ℕ → Type 0
AtEnd n R r q u v = (i : ℕ) × ((i ≡ 0) ⊎ (i + 1 ≡ n)) × (u ≡ R * i + r) × (v ≡ R * i + q)

abbrev pub Ends : Style → ℕ → ℕ → ℕ → Type 0
Ends Hard n u v = AtEnd n 2 0 1 u v
Ends Thin n u v = AtEnd n 3 0 1 u v ⊎ AtEnd n 3 1 2 u v
Ends Thick n u v = AtEnd n 4 0 3 u v

-- the first and the last row
abbrev pub Sides : (ℕ → ℕ → Type 0) → Style → ℕ → ℕ → Type 0
Sides Near s u v = InRow Near (rows s) 0 u v ⊎ InRow Near (rows s) (rows s - 1) u v

-- the rim of a figure of n points, by its vertices' numbers within it
abbrev pub Rim : Kind → ℕ → ℕ → ℕ → Type 0
Rim Nothing n u v = ⊥
Rim HardFill n u v = InRow (Around n) 1 0 u v
Rim FeatheredFill n u v = InRow (Around n) 2 1 u v
Rim (Line s) n u v = Sides (Next n) s u v ⊎ Ends s n u v
Rim (Loop s) n u v = Sides (Around n) s u v
Rim (Filled Hard) n u v = Sides (Around n) Hard u v ⊎ Raised (2 * n) (InRow (Around n) 1 0) u v
Rim (Filled Thin) n u v = InRow (Around n) 3 0 u v
Rim (Filled Thick) n u v = InRow (Around n) 4 0 u v

-- a closed stroke of just two points, whose bands lie between the same vertices
abbrev pub OfTwo : Kind → ℕ → Type 0
OfTwo Nothing n = ⊥
OfTwo HardFill n = ⊥
OfTwo FeatheredFill n = ⊥
OfTwo (Line s) n = ⊥
OfTwo (Loop s) n = n ≡ 2
OfTwo (Filled s) n = n ≡ 2
