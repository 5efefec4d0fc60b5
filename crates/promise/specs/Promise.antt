-- What no mesh does, whatever run of calls has made it.
use Rattle.std.specs.Prelude.{◌≡◌, ℕ, ◌+◌, ◌*◌, ◌<◌, ◌≤◌, ◌⊎◌, List, [], length, Some, None, Option, slice_index_or}
use Rattle.std.specs.Float.{binary32}
use Rattle.std.specs.Float.Ieee.{div}
use Rattle.std.specs.List.{flat_map}
use Rattle.emath.specs.Answers.{Answer, accepted}
use Rattle.emath.specs.declared.plane.Pos2.{Pos2}
use Rattle.ecolor.specs.Colors.{faded, transparent}
use Rattle.ecolor.specs.Vertices.{origin, untextured}
use Rattle.ecolor.specs.declared.color.Color32.{Color32}
use Rattle.ecolor.specs.declared.vertex.Vertex.{Vertex}
use Rattle.tessellator.specs.Kinds.{rows, vertex_count}
use Rattle.tessellator.specs.Outcome.{Figure, nothing, triangles_of}
use Rattle.tessellator.specs.State.{MeshState}
use Rattle.tessellator.specs.Triangles.{Triangle, raised, triples}
use Rattle.tessellator.specs.declared.kind.Kind.{Kind}
use Rattle.tessellator.specs.declared.kind.Kind.TheVariants.{Nothing, HardFill, FeatheredFill, Line, Loop, Filled}
use Rattle.tessellator.specs.declared.stroke.Style.{Style}
use Rattle.tessellator.specs.declared.stroke.Style.TheVariants.{Hard, Thin, Thick}
use Rattle.cutting.specs.Cutting.{Cutting}
use Rattle.promise.specs.Grown.{Grown, Look, Placed, fill_look}
use Rattle.promise.specs.Rims.{shared, Edge, Raised, Rim, OfTwo}

-- ---- the figures of a mesh

abbrev pub point_count : Figure → ℕ
point_count figure = length figure.points

abbrev pub vertex_count_of : Figure → ℕ
vertex_count_of figure = vertex_count figure.kind (point_count figure)

-- its triangles and its rim, by the mesh's vertex numbers
abbrev pub drawn : Placed → List Triangle
drawn f = raised f.first (triangles_of f.figure)

abbrev pub RimOf : Placed → ℕ → ℕ → Type 0
RimOf f u v = Raised f.first (Rim f.figure.kind (point_count f.figure)) u v

-- a closed stroke of just two points
abbrev pub IsOfTwo : Placed → Type 0
IsOfTwo f = OfTwo f.figure.kind (point_count f.figure)

-- the figure with the number i; past the last there is nothing
abbrev pub placed : List Placed → ℕ → Placed
placed figures i = slice_index_or figures i (record { figure = nothing []; look = fill_look None; first = 0 })

-- the vertex with the number k, and that of a figure with the number k within it
abbrev pub at : List Vertex → ℕ → Vertex
at vertices k = slice_index_or vertices k (untextured origin transparent)

abbrev pub vertex_in : MeshState → Placed → ℕ → Vertex
vertex_in m f k = at m.vertices (f.first + k)

-- ---- what the vertices of a figure are held to

-- the style of a stroke; a fill has none
abbrev pub style_in : Kind → Option Style
style_in Nothing = None
style_in HardFill = None
style_in FeatheredFill = None
style_in (Line s) = Some s
style_in (Loop s) = Some s
style_in (Filled s) = Some s

-- the rows of a stroke's core
abbrev pub CoreRow : Style → ℕ → Type 0
CoreRow Hard r = r < 2
CoreRow Thin r = r ≡ 1
CoreRow Thick r = (r ≡ 1) ⊎ (r ≡ 2)

-- the colour of a core vertex at a place; in a thin stroke the rule's colour is faded
abbrev pub core_colour : Style → Look → Pos2 → Color32
core_colour Hard look place = look.colour look.box place
core_colour Thin look place = faded (div binary32 look.width look.feathering) (look.colour look.box place)
core_colour Thick look place = look.colour look.box place

-- the vertex of each point in a core row has its rule's colour for its own place and the figure's box
abbrev pub Coloured : Figure → Look → (ℕ → Vertex) → Type 0
Coloured figure look vertex =
    (s : Style) → style_in figure.kind ≡ Some s → (i r : ℕ) → i < point_count figure → CoreRow s r →
    (vertex (rows s * i + r)).color ≡ core_colour s look (vertex (rows s * i + r)).pos

-- under a texture rule each vertex has the rule's texture place for its own place
abbrev pub Textured : Figure → Look → (ℕ → Vertex) → Type 0
Textured figure look vertex =
    (rule : Pos2 → Pos2) → look.texture ≡ Some rule → (k : ℕ) → k < vertex_count_of figure → (vertex k).uv ≡ rule (vertex k).pos

-- ---- the promise

-- A mesh of at least one triangle is cut into no more parts than any cutting in order into legal runs has.
abbrev pub FewestParts : MeshState → Answer ℕ → Type 0
FewestParts m answer =
    (parts : ℕ) → answer ≡ accepted parts → 0 < length (triples m.indices) →
    (runs : List (List Triangle)) → Cutting (triples m.indices) runs → parts ≤ length runs

-- Of a mesh with these figures, whose cutting answers so:
pub record Never (m : MeshState) (figures : List Placed) (answer : Answer ℕ) : Type 0 where
  -- the triangles of the mesh are those of its figures, one figure after the other
  pub triangles : triples m.indices ≡ flat_map drawn figures
  -- no edge is in triangles of two figures
  pub apart : (i j u v : ℕ) → Edge (drawn (placed figures i)) u v → Edge (drawn (placed figures j)) u v → i ≡ j
  -- An edge on the rim of a figure is in exactly one triangle of the mesh, and any other edge of it in exactly two,
  -- but for closed strokes of just two points.
  pub rim : (i u v : ℕ) → (IsOfTwo (placed figures i) → ⊥) → RimOf (placed figures i) u v → shared u v (triples m.indices) ≡ 1
  pub inner : (i u v : ℕ) → (IsOfTwo (placed figures i) → ⊥) → Edge (drawn (placed figures i)) u v → (RimOf (placed figures i) u v → ⊥) →
      shared u v (triples m.indices) ≡ 2
  -- each vertex of a figure is one of the mesh's
  pub held : (i k : ℕ) → k < vertex_count_of (placed figures i).figure → (placed figures i).first + k < length m.vertices
  -- core vertices have their rule's colours, and the vertices of textured fills their rule's texture places
  pub coloured : (i : ℕ) → Coloured (placed figures i).figure (placed figures i).look (vertex_in m (placed figures i))
  pub textured : (i : ℕ) → Textured (placed figures i).figure (placed figures i).look (vertex_in m (placed figures i))
  -- no cutting in order has fewer runs than there are parts
  pub fewest : FewestParts m answer

-- of a mesh whose cutting answers so, whatever run of calls has made it
abbrev pub Stands : MeshState → Answer ℕ → Type 0
Stands m answer = (figures : List Placed) → Grown m figures → Never m figures answer
