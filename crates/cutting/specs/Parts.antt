-- The parts of a mesh, and their indices.
use Rattle.std.specs.Prelude.{ℕ, ◌+◌, ◌-◌, ◌*◌, ◌<◌, ◌≤◌, min, if◌then◌else◌, List, [], ◌∷◌, ◌++◌, map, length, take, drop, Some, None, Option, nat_le, slice_index}
use Rattle.tessellator.specs.State.{MeshState}
use Rattle.tessellator.specs.Triangles.{Triangle, tri, flat}
use Rattle.ecolor.specs.declared.vertex.TextureId.{TextureId}
use Rattle.ecolor.specs.declared.vertex.Vertex.{Vertex}
use Rattle.cutting.specs.Cutting.{lowest, span}
use Rattle.cutting.specs.declared.part.Part.{Part}

abbrev pub part : ℕ → ℕ → ℕ → ℕ → TextureId → Part
part vertex vertices index indices texture =
    record { first_vertex = vertex; vertex_count = vertices; first_index = index; index_count = indices; texture_id = texture }

-- the whole mesh as one part
abbrev pub whole : MeshState → Part
whole m = part 0 (length m.vertices) 0 (length m.indices) m.texture

-- the least index of a run
abbrev pub least : List Triangle → ℕ
least [] = 0
least (tri x y z ∷ ts) = lowest (min x (min y z)) ts

-- the parts of runs, where `first` is the number of the first run's first index
abbrev pub parts_from : ℕ → TextureId → List (List Triangle) → List Part
parts_from first texture [] = []
parts_from first texture (run ∷ runs) =
    part (least run) (span run) first (3 * length run) texture ∷ parts_from (first + 3 * length run) texture runs

-- a list of indices, each less by `by`
abbrev pub less : ℕ → List ℕ → List ℕ
less by is = map (λ i. i - by) is

-- 16 bits can name each index less by `by`
abbrev pub Within : ℕ → List ℕ → Type 0
Within by is = (k : ℕ) → k < length is → (by ≤ slice_index is k) × (slice_index is k ≤ by + 65535)

-- the indices of runs, each run's less by its least
abbrev pub lowered : List (List Triangle) → List ℕ
lowered [] = []
lowered (run ∷ runs) = less (least run) (flat run) ++ lowered runs

-- the vertices of a part, where the mesh has them
abbrev pub vertices_of : Part → List Vertex → Option (List Vertex)
vertices_of p vs =
    if nat_le (p.first_vertex + p.vertex_count) (length vs) then Some (take p.vertex_count (drop p.first_vertex vs)) else None
