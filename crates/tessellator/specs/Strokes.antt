-- The figures of strokes, open and closed.
use Rattle.std.specs.Prelude.{ℕ, ◌-◌, ◌≤◌, Bool, true, false, if◌then◌else◌, not, ◌&&◌, ◌||◌, List, [], ◌∷◌, ◌++◌, map, length, take, drop, Some, None, Option, from_bits, nat_lt, Float}
use Rattle.std.specs.Float.{binary32}
use Rattle.std.specs.Float.Ieee.{sub, mul, div, neg, le, lt, eq}
use Rattle.emath.specs.Answers.{Answer}
use Rattle.emath.specs.Limits.{is_distance}
use Rattle.emath.specs.Plane as plane
use Rattle.emath.specs.declared.plane.Pos2.{Pos2}
use Rattle.emath.specs.declared.rect.Rect.{Rect}
use Rattle.path.specs.Held.{Held}
use Rattle.path.specs.Points.{moved}
use Rattle.path.specs.Turns.{turned}
use Rattle.path.specs.declared.point.PathPoint.{PathPoint}
use Rattle.path.specs.declared.point.Side.{Side}
use Rattle.path.specs.declared.point.Side.TheVariants.{Outward, Along, Inward, OutwardPast, InwardPast}
use Rattle.ecolor.specs.Colors.{transparent, is_transparent}
use Rattle.ecolor.specs.declared.color.Color32.{Color32}
use Rattle.ecolor.specs.declared.vertex.Vertex.{Vertex}
use Rattle.tessellator.specs.Boxes.{stroke_box}
use Rattle.tessellator.specs.Brushes.{colored}
use Rattle.tessellator.specs.Fills.{are_places, fill_figure, fill_kind, half}
use Rattle.tessellator.specs.Outcome.{Figure, KindFits, Outcome, nothing, shaped, outcome, sizing}
use Rattle.tessellator.specs.Rows.{row_vertices}
use Rattle.tessellator.specs.State.{MeshState}
use Rattle.tessellator.specs.declared.fault.Appended.{Appended}
use Rattle.tessellator.specs.declared.kind.Kind.{Kind}
use Rattle.tessellator.specs.declared.kind.Kind.TheVariants.{Nothing, Line, Loop, Filled}
use Rattle.tessellator.specs.declared.row.Paint.{Paint}
use Rattle.tessellator.specs.declared.row.Paint.TheVariants.{Flat, Core, Faded}
use Rattle.tessellator.specs.declared.row.Row.{Row}
use Rattle.tessellator.specs.declared.stroke.Course.{Course}
use Rattle.tessellator.specs.declared.stroke.Course.TheVariants.{Unjoined, Around}
use Rattle.tessellator.specs.declared.stroke.PathStroke.{PathStroke}
use Rattle.tessellator.specs.declared.stroke.PathType.{PathType}
use Rattle.tessellator.specs.declared.stroke.pen.Pen as stroke_pen
use Rattle.tessellator.specs.declared.stroke.PathType.TheVariants.{Open, Closed}
use Rattle.tessellator.specs.declared.stroke.StrokeKind.{StrokeKind}
use Rattle.tessellator.specs.declared.stroke.StrokeKind.TheVariants.{Inside, Middle, Outside}
use Rattle.tessellator.specs.declared.stroke.Style.{Style}
use Rattle.tessellator.specs.declared.stroke.Style.TheVariants.{Hard, Thin, Thick}

-- ---- the rows beside the path

abbrev pub inner_radius : Float → Float → Float
inner_radius feathering width = half (sub binary32 width feathering)

abbrev pub outer_radius : Float → Float → Float
outer_radius feathering width = plane.midpoint width feathering

-- two core rows between feathered sides
abbrev pub core_between : Side → Float → Side → Color32 → List Row
core_between first inner last fill =
    record { side = first; paint = Flat transparent }
    ∷ record { side = Outward inner; paint = Core }
    ∷ record { side = Inward inner; paint = Core }
    ∷ record { side = last; paint = Flat fill } ∷ []

abbrev pub thick_rows : Float → Float → Color32 → List Row
thick_rows feathering width fill =
    core_between (Outward (outer_radius feathering width)) (inner_radius feathering width) (Inward (outer_radius feathering width)) fill

-- the outer rows at an end of a thick line lie further out
abbrev pub end_rows : Float → Float → Float → List Row
end_rows feathering width past =
    core_between (OutwardPast (outer_radius feathering width) past) (inner_radius feathering width) (InwardPast (outer_radius feathering width) past) transparent

abbrev pub thin_rows : Float → Float → Color32 → List Row
thin_rows feathering width fill =
    record { side = Outward feathering; paint = Flat transparent }
    ∷ record { side = Along; paint = Faded (div binary32 width feathering) }
    ∷ record { side = Inward feathering; paint = Flat fill } ∷ []

abbrev pub hard_rows : Float → List Row
hard_rows width =
    record { side = Outward (div binary32 width plane.two); paint = Core }
    ∷ record { side = Inward (div binary32 width plane.two); paint = Core } ∷ []

-- without feathering hard, else thin up to 0.9 of the feathering
abbrev pub style_of : Float → Float → Style
style_of feathering width =
    if lt plane.zero feathering then (if le width (mul binary32 (from_bits binary32 0x3F66_6666) feathering) then Thin else Thick) else Hard

-- ---- what a stroke is drawn with

abbrev pub fill_of : Course → Color32
fill_of Unjoined = transparent
fill_of (Around fill) = fill

abbrev pub is_loop : Course → Bool
is_loop Unjoined = false
is_loop (Around fill) = true

-- a hard stroke of two points has no fill within
abbrev pub filled_kind : Style → ℕ → Kind
filled_kind Hard n = if nat_lt n 3 then Loop Hard else Filled Hard
filled_kind Thin n = Filled Thin
filled_kind Thick n = Filled Thick

abbrev pub kind_of : Style → Course → ℕ → Kind
kind_of style Unjoined n = Line style
kind_of style (Around fill) n = if is_transparent fill then Loop style else filled_kind style n

pub record Pen : Type 0 where
  pub feathering : Float
  pub width : Float
  pub kind : StrokeKind
  pub course : Course
  pub colour : Rect → Pos2 → Color32
  pub plain : Option Color32

-- a stroke with a colour rule's meaning
abbrev pub pen_of : {C : Type 0} → (C → Rect → Pos2 → Color32) → (C → Option Color32) → Float → Course → PathStroke C → Pen
pen_of colour plain feathering course stroke = record {
  feathering = feathering;
  width = stroke.width;
  kind = stroke.kind;
  course = course;
  colour = colour stroke.color;
  plain = plain stroke.color;
}

-- what a pen of the code draws with
abbrev pub meaning : {C : Type 0} → (C → Rect → Pos2 → Color32) → (C → Option Color32) → stroke_pen.Pen C → Pen
meaning colour plain p = pen_of colour plain p.feathering p.course p.stroke.now

-- `stroke` runs along an open line, or along a loop without a fill
abbrev pub course_of : PathType → Course
course_of Open = Unjoined
course_of Closed = Around transparent

-- ---- the points in the middle of the stroke

abbrev pub is_middle : StrokeKind → Bool
is_middle Inside = false
is_middle Middle = true
is_middle Outside = false

-- clockwise, where the fill or the kind asks for an inside
abbrev pub faced : Course → StrokeKind → List PathPoint → List PathPoint
faced course kind points = if not (is_transparent (fill_of course)) || (is_loop course && not (is_middle kind)) then turned points else points

abbrev pub centred : StrokeKind → Float → List PathPoint → List PathPoint
centred Inside width points = map (moved (Inward (half width))) points
centred Middle width points = points
centred Outside width points = map (moved (Outward (half width))) points

abbrev pub middle_of : Pen → List PathPoint → List PathPoint
middle_of pen points = centred pen.kind pen.width (faced pen.course pen.kind points)

-- within a stroke that is transparent everywhere
abbrev pub shrunk : StrokeKind → Float → List PathPoint → List PathPoint
shrunk Inside width points = map (moved (Inward width)) points
shrunk Middle width points = map (moved (Inward (half width))) points
shrunk Outside width points = points

abbrev pub is_clear : Option Color32 → Bool
is_clear None = false
is_clear (Some color) = is_transparent color

-- ---- the figures

-- a filled thin stroke lies further out, so that the filled area stays as it is
abbrev pub swollen : Float → Float → Color32 → List PathPoint → List PathPoint
swollen feathering width fill points =
    if is_transparent fill then points else if lt width feathering then map (moved (Outward (half (sub binary32 feathering width)))) points else points

-- the vertices of a thick line, whose ends are feathered too
abbrev pub thick_line : Float → Float → (Paint → Pos2 → Vertex) → List PathPoint → List Vertex
thick_line feathering width brush points =
    row_vertices brush (end_rows feathering width feathering) (take 1 points)
    ++ (row_vertices brush (thick_rows feathering width transparent) (take (length points - 2) (drop 1 points))
    ++ row_vertices brush (end_rows feathering width (neg feathering)) (drop (length points - 1) points))

abbrev pub thick_vertices : Course → Float → Float → (Paint → Pos2 → Vertex) → List PathPoint → List Vertex
thick_vertices Unjoined feathering width brush points = thick_line feathering width brush points
thick_vertices (Around fill) feathering width brush points = row_vertices brush (thick_rows feathering width fill) points

-- the points of a visible fill within a hard stroke, whose vertices follow the stroke's
abbrev pub inset : Float → Color32 → List PathPoint → List PathPoint
inset width fill points = if is_transparent fill then points else map (moved (Inward (half width))) points

-- a stroke over points that lie in its middle
abbrev pub stroke_with : Style → (Paint → Pos2 → Vertex) → Float → Float → Course → List PathPoint → Figure
stroke_with Hard brush feathering width course points =
    let inner = inset width (fill_of course) points in
    shaped (kind_of Hard course (length points)) inner (row_vertices brush (hard_rows width) points ++ (fill_figure plane.zero (fill_of course) inner).vertices)
stroke_with Thin brush feathering width course points =
    let outer = swollen feathering width (fill_of course) points in
    shaped (kind_of Thin course (length points)) outer (row_vertices brush (thin_rows feathering width (fill_of course)) outer)
stroke_with Thick brush feathering width course points = shaped (kind_of Thick course (length points)) points (thick_vertices course feathering width brush points)

-- the rule's answers for the box of a stroke over these points
abbrev pub brush_on : Pen → List PathPoint → Paint → Pos2 → Vertex
brush_on pen points = colored (pen.colour (stroke_box pen.feathering pen.width points))

abbrev pub stroke_along : Pen → List PathPoint → Figure
stroke_along pen points = stroke_with (style_of pen.feathering pen.width) (brush_on pen points) pen.feathering pen.width pen.course points

-- fewer than two points give nothing, and a stroke of no width or of no colour gives only the fill
abbrev pub stroke_figure : Pen → List PathPoint → Figure
stroke_figure pen points =
    if nat_lt (length points) 2 then nothing points
    else if eq pen.width plane.zero then fill_figure pen.feathering (fill_of pen.course) points
    else if is_clear pen.plain then fill_figure pen.feathering (fill_of pen.course) (shrunk pen.kind pen.width (faced pen.course pen.kind points))
    else stroke_along pen (middle_of pen points)

-- what kind of figure that is, for n points
abbrev pub stroke_kind : Pen → ℕ → Kind
stroke_kind pen n =
    if nat_lt n 2 then Nothing
    else if eq pen.width plane.zero || is_clear pen.plain then fill_kind pen.feathering (fill_of pen.course) n
    else kind_of (style_of pen.feathering pen.width) pen.course n

-- there are two points and more, and space for a stroke of this style over them
pub record StrokeFits (style : Style) (course : Course) (points : List PathPoint) (m : MeshState) : Type 0 where
  pub enough : 2 ≤ length points
  pub fits : KindFits (kind_of style course (length points)) (length points) m

-- ---- the calls

abbrev pub stroke_allowed : Pen → List PathPoint → Bool
stroke_allowed pen points = is_distance pen.width && (is_distance pen.feathering && are_places points)

abbrev pub stroke_outcome : Pen → Held PathPoint → MeshState → Outcome
stroke_outcome pen path mesh = outcome (stroke_allowed pen path.used) (stroke_figure pen path.used) path mesh

abbrev pub stroke_sizing : Pen → Held PathPoint → Answer Appended
stroke_sizing pen path = sizing (stroke_allowed pen path.used) (stroke_figure pen path.used)
