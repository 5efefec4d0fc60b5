-- The triangles of each kind of figure over its numbered vertices, in the order drawn.
-- A figure gives each of its points the same number of rows; the vertex of point i in row r of R rows has the number R * i + r.
use Rattle.std.specs.Prelude.{ℕ, zero, suc, ◌+◌, ◌-◌, ◌*◌, List, [], ◌∷◌, ◌++◌}
use Rattle.tessellator.specs.Triangles.{Triangle, tri, raised}
use Rattle.tessellator.specs.declared.kind.Kind.{Kind}
use Rattle.tessellator.specs.declared.kind.Kind.TheVariants.{Nothing, HardFill, FeatheredFill, Line, Loop, Filled}
use Rattle.tessellator.specs.declared.stroke.Style.{Style}
use Rattle.tessellator.specs.declared.stroke.Style.TheVariants.{Hard, Thin, Thick}

-- f 0, f 1, .., f (k - 1), one list after the other
abbrev pub each : ℕ → (ℕ → List Triangle) → List Triangle
each zero f = []
each (suc k) f = each k f ++ f k

-- between the points i and j, of R rows each: the two triangles between the rows r and r + 1
abbrev pub cell : ℕ → ℕ → ℕ → ℕ → List Triangle
cell R i j r =
    tri (R * i + r) (R * i + (r + 1)) (R * j + r)
    ∷ tri (R * i + (r + 1)) (R * j + r) (R * j + (r + 1))
    ∷ []

-- between all their rows
abbrev pub band : ℕ → ℕ → ℕ → List Triangle
band R i j = each (R - 1) (cell R i j)

-- from each of the first m points to the next
abbrev pub bands : ℕ → ℕ → List Triangle
bands R m = each m (λ i. band R i (i + 1))

-- the same, after the band from the last point to the first
abbrev pub ring : ℕ → ℕ → List Triangle
ring R n = band R (n - 1) 0 ++ bands R (n - 1)

-- the points' vertices in row r of R rows, as a polygon
abbrev pub fan : ℕ → ℕ → ℕ → List Triangle
fan R r n = each (n - 2) (λ i. tri (R * (i + 1) + r) r (R * (i + 2) + r) ∷ [])

-- the end of a thick line at point i
abbrev pub cap : ℕ → List Triangle
cap i = tri (4 * i) (4 * i + 1) (4 * i + 2) ∷ tri (4 * i) (4 * i + 2) (4 * i + 3) ∷ []

-- n vertices in one row, as a polygon
abbrev pub polygon : ℕ → List Triangle
polygon n = each (n - 2) (λ i. tri 0 (i + 1) (i + 2) ∷ [])

-- the band of a feathered fill, and of a hard stroke, between the points i and j
abbrev pub skirt : ℕ → ℕ → List Triangle
skirt i j = tri (2 * j) (2 * i) (2 * i + 1) ∷ tri (2 * i + 1) (2 * j + 1) (2 * j) ∷ []

abbrev pub skirts : ℕ → List Triangle
skirts n = each (n - 1) (λ i. skirt i (i + 1))

abbrev pub plank : ℕ → ℕ → List Triangle
plank i j = tri (2 * i) (2 * i + 1) (2 * j) ∷ tri (2 * j) (2 * i + 1) (2 * j + 1) ∷ []

abbrev pub planks : ℕ → List Triangle
planks n = each (n - 1) (λ i. plank i (i + 1))

abbrev pub rows : Style → ℕ
rows Hard = 2
rows Thin = 3
rows Thick = 4

-- The triangles of a figure of n points, by its vertices' numbers within it
abbrev pub triangles : Kind → ℕ → List Triangle
triangles Nothing n = []
triangles HardFill n = polygon n
triangles FeatheredFill n = fan 2 0 n ++ (skirt (n - 1) 0 ++ skirts n)
triangles (Line Hard) n = planks n
triangles (Line Thin) n = bands 3 (n - 1)
triangles (Line Thick) n = cap 0 ++ (bands 4 (n - 1) ++ cap (n - 1))
triangles (Loop Hard) n = planks n ++ plank (n - 1) 0
triangles (Loop Thin) n = ring 3 n
triangles (Loop Thick) n = ring 4 n
triangles (Filled Hard) n = (planks n ++ plank (n - 1) 0) ++ raised (2 * n) (polygon n)
triangles (Filled Thin) n = ring 3 n ++ fan 3 2 n
triangles (Filled Thick) n = ring 4 n ++ fan 4 3 n

-- How many vertices it has. A hard stroke that is filled has the vertices of its fill after its own.
abbrev pub vertex_count : Kind → ℕ → ℕ
vertex_count Nothing n = 0
vertex_count HardFill n = n
vertex_count FeatheredFill n = 2 * n
vertex_count (Line s) n = rows s * n
vertex_count (Loop s) n = rows s * n
vertex_count (Filled Hard) n = 2 * n + n
vertex_count (Filled Thin) n = 3 * n
vertex_count (Filled Thick) n = 4 * n

-- and how many indices, three to a triangle
abbrev pub index_count : Kind → ℕ → ℕ
index_count Nothing n = 0
index_count HardFill n = 3 * (n - 2)
index_count FeatheredFill n = 3 * (n - 2) + 6 * n
index_count (Line Hard) n = 6 * (n - 1)
index_count (Line Thin) n = 12 * (n - 1)
index_count (Line Thick) n = 18 * (n - 1) + 12
index_count (Loop Hard) n = 6 * n
index_count (Loop Thin) n = 12 * n
index_count (Loop Thick) n = 18 * n
index_count (Filled Hard) n = 6 * n + 3 * (n - 2)
index_count (Filled Thin) n = 12 * n + 3 * (n - 2)
index_count (Filled Thick) n = 18 * n + 3 * (n - 2)

-- The fewest points that it is drawn from. A hard stroke of two points has no fill, so it is a loop.
abbrev pub fewest : Kind → ℕ
fewest Nothing = 0
fewest HardFill = 3
fewest FeatheredFill = 3
fewest (Line s) = 2
fewest (Loop s) = 2
fewest (Filled Hard) = 3
fewest (Filled Thin) = 2
fewest (Filled Thick) = 2
