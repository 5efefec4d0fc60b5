-- What a mesh holds: what is in use, and the rest of the lent memory as it stands.
use Rattle.std.specs.Prelude.{ℕ, ◌+◌, ◌-◌, ◌*◌, ◌<◌, min, Bool, List, [], ◌++◌, map, length, drop, ◌==◌}
use Rattle.slice_vec.specs.Held.{held}
use Rattle.tessellator.specs.Triangles.{Triangle, tri, flat, raised}
use Rattle.tessellator.specs.declared.finished.Finished.{Finished}
use Rattle.tessellator.specs.declared.mesh.Mesh.{Mesh}
use Rattle.ecolor.specs.declared.vertex.TextureId.{TextureId}
use Rattle.ecolor.specs.declared.vertex.Vertex.{Vertex}

pub record MeshState : Type 0 where
  pub vertices : List Vertex
  pub unused_vertices : List Vertex
  pub indices : List ℕ
  pub unused_indices : List ℕ
  pub texture : TextureId

abbrev pub mesh_state : Mesh → MeshState
mesh_state m = record {
  vertices = (held m.vertices).used;
  unused_vertices = (held m.vertices).unused;
  indices = (held m.indices).used;
  unused_indices = (held m.indices).unused;
  texture = m.texture_id;
}

abbrev pub finished_state : Finished → MeshState
finished_state f = mesh_state f.mesh

-- a mesh made in lent memory
abbrev pub empty_mesh : List Vertex → List ℕ → TextureId → MeshState
empty_mesh vertices indices texture = record { vertices = []; unused_vertices = vertices; indices = []; unused_indices = indices; texture = texture }

unfoldable pub with_vertices : MeshState → List Vertex → MeshState
with_vertices m vs = record {
  vertices = m.vertices ++ vs;
  unused_vertices = drop (length vs) m.unused_vertices;
  indices = m.indices;
  unused_indices = m.unused_indices;
  texture = m.texture;
}

-- triangles among the vertices from `base` on
unfoldable pub with_triangles : ℕ → MeshState → List Triangle → MeshState
with_triangles base m triangles = record {
  vertices = m.vertices;
  unused_vertices = m.unused_vertices;
  indices = m.indices ++ flat (raised base triangles);
  unused_indices = drop (3 * length triangles) m.unused_indices;
  texture = m.texture;
}

-- A figure comes after what the mesh has: its vertex numbers are raised by the old vertex count.
abbrev pub appended : MeshState → List Vertex → List Triangle → MeshState
appended m vs triangles = with_triangles (length m.vertices) (with_vertices m vs) triangles

-- a triangle among the vertices from `base` on names three of them
abbrev pub InMesh : ℕ → Triangle → MeshState → Type 0
InMesh base (tri x y z) m = (base + x < length m.vertices) × ((base + y < length m.vertices) × (base + z < length m.vertices))

-- The space left: at most 16,777,216 vertices and 100,663,296 indices are held.
unfoldable pub vertex_room : MeshState → ℕ
vertex_room m = min (16777216 - length m.vertices) (length m.unused_vertices)

unfoldable pub index_room : MeshState → ℕ
index_room m = min (100663296 - length m.indices) (length m.unused_indices)

-- A mesh without vertices is empty. (It then has no triangles, since each index names a vertex.)
abbrev pub is_empty : MeshState → Bool
is_empty m = length m.vertices == 0

unfoldable pub with_texture : MeshState → TextureId → MeshState
with_texture m texture = record {
  vertices = m.vertices;
  unused_vertices = m.unused_vertices;
  indices = m.indices;
  unused_indices = m.unused_indices;
  texture = texture;
}

-- behind what the mesh has, all that another has, its indices raised by the old vertex count; and its texture
unfoldable pub joined : MeshState → MeshState → MeshState
joined other m = record {
  vertices = m.vertices ++ other.vertices;
  unused_vertices = drop (length other.vertices) m.unused_vertices;
  indices = m.indices ++ map (λ i. length m.vertices + i) other.indices;
  unused_indices = drop (length other.indices) m.unused_indices;
  texture = other.texture;
}
