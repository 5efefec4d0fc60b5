-- How a mesh comes about by a run of calls, and which figures it then has.
use Rattle.std.specs.Prelude.{◌≡◌, ℕ, ◌+◌, Bool, false, List, [], ◌∷◌, ◌++◌, map, length, Some, None, Option, Float}
use Rattle.emath.specs.Answers.{Answer, accepted, refused}
use Rattle.emath.specs.Plane as plane
use Rattle.emath.specs.declared.plane.Pos2.{Pos2}
use Rattle.emath.specs.declared.rect.Rect.{Rect}
use Rattle.path.specs.Held.{Held}
use Rattle.path.specs.declared.point.PathPoint.{PathPoint}
use Rattle.ecolor.specs.Colors.{transparent}
use Rattle.ecolor.specs.declared.color.Color32.{Color32}
use Rattle.ecolor.specs.declared.vertex.TextureId.{TextureId}
use Rattle.ecolor.specs.declared.vertex.Vertex.{Vertex}
use Rattle.tessellator.specs.Boxes.{stroke_box}
use Rattle.tessellator.specs.Fills.{fill_allowed, fill_figure, textured_figure}
use Rattle.tessellator.specs.Outcome.{Figure, outcome, textured_outcome, joining}
use Rattle.tessellator.specs.State.{MeshState, empty_mesh}
use Rattle.tessellator.specs.Strokes.{Pen, middle_of, stroke_figure, stroke_outcome}
use Rattle.tessellator.specs.declared.fault.Appended.{Appended}
use Rattle.tessellator.specs.declared.stroke.Course.{Course}
use Rattle.tessellator.specs.declared.stroke.StrokeKind.{StrokeKind}

-- what a colour rule means, with its laws
pub record Rule : Type 0 where
  pub colour : Rect → Pos2 → Color32
  pub plain : Option Color32
  pub reads_box : Bool
  pub boxless : reads_box ≡ false → (b c : Rect) (p : Pos2) → colour b p ≡ colour c p
  pub everywhere : (k : Color32) → plain ≡ Some k → (b : Rect) (p : Pos2) → colour b p ≡ k

abbrev pub pen_with : Float → Float → StrokeKind → Course → Rule → Pen
pen_with feathering width kind course rule = record {
  feathering = feathering;
  width = width;
  kind = kind;
  course = course;
  colour = rule.colour;
  plain = rule.plain;
}

-- What the vertices of a figure are held to, by what its call was given: the colour rule of its core, the box that the rule is
-- asked for, width and feathering, and a texture rule.
pub record Look : Type 0 where
  pub colour : Rect → Pos2 → Color32
  pub box : Rect
  pub width : Float
  pub feathering : Float
  pub texture : Option (Pos2 → Pos2)

-- a fill has no core
abbrev pub fill_look : Option (Pos2 → Pos2) → Look
fill_look texture = record { colour = λ _ _. transparent; box = plane.nothing; width = plane.zero; feathering = plane.zero; texture = texture }

-- a stroke over points that lie in its middle
abbrev pub look_along : Pen → List PathPoint → Look
look_along pen points = record {
  colour = pen.colour;
  box = stroke_box pen.feathering pen.width points;
  width = pen.width;
  feathering = pen.feathering;
  texture = None;
}

abbrev pub stroke_look : Pen → List PathPoint → Look
stroke_look pen points = look_along pen (middle_of pen points)

-- a figure of a mesh, with the number of its first vertex
pub record Placed : Type 0 where
  pub figure : Figure
  pub look : Look
  pub first : ℕ

-- an accepted draw adds its figure, behind the vertices that the mesh had
abbrev pub added : Answer Appended → MeshState → Figure → Look → List Placed
added (accepted size) mesh figure look = record { figure = figure; look = look; first = length mesh.vertices } ∷ []
added (refused number values) mesh figure look = []

-- an accepted append adds a copy of each figure of the other mesh, its vertex numbers raised
abbrev pub shifted : ℕ → Placed → Placed
shifted b f = record { figure = f.figure; look = f.look; first = b + f.first }

abbrev pub copied : Answer (Unit {0}) → MeshState → List Placed → List Placed
copied (accepted done) mesh others = map (shifted (length mesh.vertices)) others
copied (refused number values) mesh others = []

-- A mesh and its figures. Each step is what the contract of a call says, whatever the call answers.
pub data Grown : MeshState → List Placed → Type 0 where
  begun : (vertices : List Vertex) (indices : List ℕ) (texture : TextureId) → Grown (empty_mesh vertices indices texture) []
  filled : {m m' : MeshState} {figures : List Placed} {p' : Held PathPoint} {answer : Answer Appended}
      (p : Held PathPoint) (feathering : Float) (color : Color32) → Grown m figures →
      record { answer = answer; path = p'; mesh = m' } ≡ outcome (fill_allowed feathering p.used) (fill_figure feathering color p.used) p m →
      Grown m' (figures ++ added answer m (fill_figure feathering color p.used) (fill_look None))
  textured : {m m' : MeshState} {figures : List Placed} {p' : Held PathPoint} {answer : Answer Appended}
      (p : Held PathPoint) (feathering : Float) (color : Color32) (texture : TextureId) (rule : Pos2 → Pos2) → Grown m figures →
      record { answer = answer; path = p'; mesh = m' } ≡ textured_outcome (fill_allowed feathering p.used) color texture (textured_figure feathering color rule p.used) p m →
      Grown m' (figures ++ added answer m (textured_figure feathering color rule p.used) (fill_look (Some rule)))
  stroked : {m m' : MeshState} {figures : List Placed} {p' : Held PathPoint} {answer : Answer Appended}
      (p : Held PathPoint) (feathering width : Float) (kind : StrokeKind) (course : Course) (rule : Rule) → Grown m figures →
      record { answer = answer; path = p'; mesh = m' } ≡ stroke_outcome (pen_with feathering width kind course rule) p m →
      Grown m' (figures ++ added answer m (stroke_figure (pen_with feathering width kind course rule) p.used) (stroke_look (pen_with feathering width kind course rule) p.used))
  appended : {m m' other : MeshState} {figures others : List Placed} {answer : Answer (Unit {0})} → Grown m figures → Grown other others →
      record { answer = answer; mesh = m' } ≡ joining other m →
      Grown m' (figures ++ copied answer m others)
