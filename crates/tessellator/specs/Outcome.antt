-- What any draw leaves, from the figure that it stands for.
use Rattle.std.specs.Prelude.{◌≡◌, ℕ, ◌+◌, ◌*◌, ◌≤◌, Bool, true, if◌then◌else◌, ◌&&◌, ◌||◌, List, [], ◌∷◌, length, take, drop, Ok, Err, Result, ◌==◌, nat_le, nat_lt}
use Rattle.emath.specs.Answers as Answers
use Rattle.emath.specs.Answers.{Answer}
use Rattle.emath.specs.Limits.{is_place}
use Rattle.emath.specs.declared.plane.Pos2.{Pos2}
use Rattle.path.specs.Held.{Held, Path, held, rewritten}
use Rattle.path.specs.declared.point.PathPoint.{PathPoint}
use Rattle.tessellator.specs.Faults.{told}
use Rattle.tessellator.specs.Kinds.{triangles, vertex_count, index_count, fewest}
use Rattle.tessellator.specs.State.{MeshState, mesh_state, is_empty, appended, joined, with_vertices, with_triangles, with_texture, vertex_room, index_room}
use Rattle.tessellator.specs.Triangles.{Triangle, tri}
use Rattle.ecolor.specs.Vertices.{is_default, same_texture, untextured}
use Rattle.ecolor.specs.Colors.{is_transparent}
use Rattle.ecolor.specs.declared.color.Color32.{Color32}
use Rattle.ecolor.specs.declared.vertex.TextureId.{TextureId}
use Rattle.tessellator.specs.declared.fault.Appended.{Appended}
use Rattle.tessellator.specs.declared.fault.FigureFault.{FigureFault}
use Rattle.tessellator.specs.declared.fault.FigureFault.TheVariants.{OutOfLimits, TooFewPoints, NoVertex, OtherTexture, NoVertexSpace, NoIndexSpace}
use Rattle.tessellator.specs.declared.kind.Kind.{Kind}
use Rattle.tessellator.specs.declared.kind.Kind.TheVariants.{Nothing}
use Rattle.tessellator.specs.declared.mesh.Mesh.{Mesh}
use Rattle.ecolor.specs.declared.vertex.Vertex.{Vertex}

-- What a draw stands for: the kind says which triangles there are among its vertices.
pub record Figure : Type 0 where
  -- as drawing leaves them in the path
  pub points : List PathPoint
  pub vertices : List Vertex
  pub kind : Kind

abbrev pub triangles_of : Figure → List Triangle
triangles_of figure = triangles figure.kind (length figure.points)

abbrev pub shaped : Kind → List PathPoint → List Vertex → Figure
shaped kind points vertices = record { points = points; vertices = vertices; kind = kind }

abbrev pub nothing : List PathPoint → Figure
nothing points = shaped Nothing points []

abbrev pub size_of : Figure → Appended
size_of figure = record { vertices = length figure.vertices; indices = 3 * length (triangles_of figure) }

pub record Outcome : Type 0 where
  pub answer : Answer Appended
  pub path : Held PathPoint
  pub mesh : MeshState

-- what a draw answers and leaves, as seen from outside
abbrev pub after : Result Appended FigureFault → Path → Mesh → Outcome
after r path mesh = record { answer = told r; path = held path; mesh = mesh_state mesh }

-- a refusal leaves path and mesh as they were
abbrev pub refused : FigureFault → Held PathPoint → MeshState → Outcome
refused fault path mesh = record { answer = told (Err fault); path = path; mesh = mesh }

abbrev pub path_after : Figure → Held PathPoint → Held PathPoint
path_after figure path = rewritten path figure.points

abbrev pub mesh_after : Figure → MeshState → MeshState
mesh_after figure mesh = appended mesh figure.vertices (triangles_of figure)

-- what a draw that is not refused makes of a path and a mesh
pub record Drawn (figure : Figure) (p : Held PathPoint) (m : MeshState) (p' : Held PathPoint) (m' : MeshState) : Type 0 where
  pub path : p' ≡ path_after figure p
  pub mesh : m' ≡ mesh_after figure m

abbrev pub drawn : Figure → Held PathPoint → MeshState → Outcome
drawn figure path mesh = record { answer = told (Ok (size_of figure)); path = path_after figure path; mesh = mesh_after figure mesh }

-- whether a mesh has space for so many vertices and indices
abbrev pub space_reserved : Appended → MeshState → Result (Unit {0}) FigureFault
space_reserved size mesh =
    if nat_le size.vertices (vertex_room mesh) then (if nat_le size.indices (index_room mesh) then Ok tt else Err NoIndexSpace) else Err NoVertexSpace

-- whether it can take them without a texture
abbrev pub reserved : Appended → MeshState → Result (Unit {0}) FigureFault
reserved size mesh = if size.vertices == 0 || is_default mesh.texture then space_reserved size mesh else Err OtherTexture

-- there is space for a figure of this kind and of n points
pub record KindFits (kind : Kind) (n : ℕ) (mesh : MeshState) : Type 0 where
  pub vertices : vertex_count kind n ≤ vertex_room mesh
  pub indices : index_count kind n ≤ index_room mesh

-- of a figure of this kind and of n points, the vertices are there from `base` on, and there is space for its triangles
pub record TrianglesFit (kind : Kind) (base n : ℕ) (mesh : MeshState) : Type 0 where
  pub enough : fewest kind ≤ n
  pub vertices : base + vertex_count kind n ≤ length mesh.vertices
  pub space : index_count kind n ≤ index_room mesh

pub record Fits (figure : Figure) (mesh : MeshState) : Type 0 where
  pub vertices : length figure.vertices ≤ vertex_room mesh
  pub indices : 3 * length (triangles_of figure) ≤ index_room mesh

abbrev pub settled : Result (Unit {0}) FigureFault → Figure → Held PathPoint → MeshState → Outcome
settled (Ok t) figure path mesh = drawn figure path mesh
settled (Err fault) figure path mesh = refused fault path mesh

-- `allowed` says that the arguments and the places of the path are within their limits
abbrev pub outcome : Bool → Figure → Held PathPoint → MeshState → Outcome
outcome allowed figure path mesh = if allowed then settled (reserved (size_of figure) mesh) figure path mesh else refused OutOfLimits path mesh

-- what sizing answers
abbrev pub sizing : Bool → Figure → Answer Appended
sizing allowed figure = if allowed then told (Ok (size_of figure)) else told (Err OutOfLimits)

-- ---- textured fills

-- whether a mesh can take so many vertices and indices with a texture: unless it is empty, it must have that texture itself
abbrev pub reserved_under : TextureId → Appended → MeshState → Result (Unit {0}) FigureFault
reserved_under texture size mesh = if is_empty mesh || same_texture mesh.texture texture then space_reserved size mesh else Err OtherTexture

-- an empty mesh takes the texture
abbrev pub textured_settled : Result (Unit {0}) FigureFault → TextureId → Figure → Held PathPoint → MeshState → Outcome
textured_settled (Ok t) texture figure path mesh =
    record { answer = told (Ok (size_of figure)); path = path_after figure path; mesh = mesh_after figure (with_texture mesh texture) }
textured_settled (Err fault) texture figure path mesh = refused fault path mesh

-- Nothing at all is done of a transparent fill, and one of fewer than three points is refused.
abbrev pub textured_outcome : Bool → Color32 → TextureId → Figure → Held PathPoint → MeshState → Outcome
textured_outcome allowed color texture figure path mesh =
    if allowed then
    (if is_transparent color then record { answer = told (Ok (size_of (nothing path.used))); path = path; mesh = mesh }
    else textured_settled (if nat_lt (length path.used) 3 then Err TooFewPoints else reserved_under texture (size_of figure) mesh) texture figure path mesh)
    else refused OutOfLimits path mesh

-- ---- appending another mesh

pub record Joining : Type 0 where
  pub answer : Answer (Unit {0})
  pub mesh : MeshState

-- it becomes what it would be, unless it refuses
abbrev pub joined_as : Result (Unit {0}) FigureFault → MeshState → MeshState → Joining
joined_as (Ok t) after before = record { answer = told (Ok tt); mesh = after }
joined_as (Err fault) after before = record { answer = told (Err fault); mesh = before }

abbrev pub joining : MeshState → MeshState → Joining
joining other mesh =
    joined_as (reserved_under other.texture (record { vertices = length other.vertices; indices = length other.indices }) mesh) (joined other mesh) mesh

abbrev pub joined_after : Result (Unit {0}) FigureFault → Mesh → Joining
joined_after r mesh = record { answer = told r; mesh = mesh_state mesh }

-- ---- a single vertex, a single triangle

abbrev pub one_vertex : Pos2 → Color32 → MeshState → Joining
one_vertex pos color mesh =
    if is_place pos then joined_as (reserved (record { vertices = 1; indices = 0 }) mesh) (with_vertices mesh (untextured pos color ∷ [])) mesh
    else record { answer = told (Err OutOfLimits); mesh = mesh }

-- an index that names no vertex is refused before the space is asked for
abbrev pub one_triangle : ℕ → ℕ → ℕ → MeshState → Joining
one_triangle a b c mesh =
    let n = length mesh.vertices in
    if nat_lt a n && (nat_lt b n && nat_lt c n) then
    (if nat_le 3 (index_room mesh) then record { answer = told (Ok tt); mesh = with_triangles 0 mesh (tri a b c ∷ []) }
    else record { answer = told (Err NoIndexSpace); mesh = mesh })
    else record { answer = told (Err NoVertex); mesh = mesh }

-- ---- what every draw keeps to

-- so much came behind what the mesh had, into the memory right behind it, and the path kept its length
pub record Added (size : Appended) (p : Held PathPoint) (m : MeshState) (p' : Held PathPoint) (m' : MeshState) : Type 0 where
  pub vertices : take (length m.vertices) m'.vertices ≡ m.vertices
  pub vertex_count : length m'.vertices ≡ length m.vertices + size.vertices
  pub unused_vertices : m'.unused_vertices ≡ drop size.vertices m.unused_vertices
  pub indices : take (length m.indices) m'.indices ≡ m.indices
  pub index_count : length m'.indices ≡ length m.indices + size.indices
  pub unused_indices : m'.unused_indices ≡ drop size.indices m.unused_indices
  pub texture : m'.texture ≡ m.texture
  pub point_count : length p'.used ≡ length p.used
  pub unused_points : p'.unused ≡ p.unused

-- Accepted, a draw adds just what it answers. Refused, it changes nothing.
abbrev pub Grows : Answer Appended → Held PathPoint → MeshState → Held PathPoint → MeshState → Type 0
Grows (Answers.accepted size) p m p' m' = Added size p m p' m'
Grows (Answers.refused number values) p m p' m' = (p' ≡ p) × (m' ≡ m)

-- A draw that is accepted answers what sizing answers; and it is accepted where sizing is, the mesh has the default texture, and there is space for what sizing answers.
pub record Sized (answer sizing : Answer Appended) (m : MeshState) : Type 0 where
  pub same : (size : Appended) → answer ≡ Answers.accepted size → sizing ≡ Answers.accepted size
  pub enough : (size : Appended) → sizing ≡ Answers.accepted size → is_default m.texture ≡ true → size.vertices ≤ vertex_room m → size.indices ≤ index_room m → answer ≡ Answers.accepted size
