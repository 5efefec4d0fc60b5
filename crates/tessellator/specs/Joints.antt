-- The triangles that join the points of a figure, each to the next.
use Rattle.std.specs.Prelude.{ℕ, ◌+◌, ◌-◌, ◌*◌, ◌≤◌, List, ◌++◌, length}
use Rattle.tessellator.specs.Kinds.{each, band, plank, skirt}
use Rattle.tessellator.specs.State.{MeshState, index_room}
use Rattle.tessellator.specs.Triangles.{Triangle}
use Rattle.tessellator.specs.declared.mesh.joint.Joint.{Joint}
use Rattle.tessellator.specs.declared.mesh.joint.Joint.TheVariants.{Plank, Rows, Skirt}

abbrev pub joint : Joint → ℕ → ℕ → List Triangle
joint Skirt i j = skirt i j
joint Plank i j = plank i j
joint (Rows R) i j = band R i j

-- how many rows it joins, with two triangles between each and the next
abbrev pub width : Joint → ℕ
width Skirt = 2
width Plank = 2
width (Rows R) = R

-- from each of the first points to the next
abbrev pub joints : Joint → ℕ → List Triangle
joints k n = each (n - 1) (λ i. joint k i (i + 1))

-- the same, after the joint from the last point to the first
abbrev pub closed : Joint → ℕ → List Triangle
closed k n = joint k (n - 1) 0 ++ joints k n

-- the vertices of the points i and j are there, and space for a joint
pub record JointFits (k : Joint) (base i j : ℕ) (m : MeshState) : Type 0 where
  pub some_rows : 1 ≤ width k
  pub first : base + width k * i + width k ≤ length m.vertices
  pub second : base + width k * j + width k ≤ length m.vertices
  pub space : 6 * (width k - 1) ≤ index_room m

-- the vertices of n points, at least one, are there, and space for so many joints
pub record JointsFit (k : Joint) (base n many : ℕ) (m : MeshState) : Type 0 where
  pub some_points : 1 ≤ n
  pub some_rows : 1 ≤ width k
  pub vertices : base + width k * n ≤ length m.vertices
  pub space : many * (6 * (width k - 1)) ≤ index_room m
