-- What the kind of a stroke says of its size.
use Rattle.std.proofs.Common.{◌≡◌, ℕ, ◌+◌, ◌*◌, ◌<◌, ◌≤◌, Bool, true, false, cond, ◌||◌, ltb, List, length, sym, refl, ap, ◌∙◌, subst, arith, length-append}
use lib.Ieee.{Float, lt, eq}
use Rattle.std.proofs.lemmas.List.{length-map}
use Rattle.std.proofs.lemmas.Bool.{cond_both, cond-true, cond-false, ltb-false, lt-ltb, le-ltb, or_from}
use Rattle.emath.specs.Plane as plane
use Rattle.emath.specs.declared.plane.Pos2.{Pos2}
use Rattle.path.specs.Turns.{turned}
use Rattle.path.specs.declared.point.PathPoint.{PathPoint}
use Rattle.path.proofs.Turning.{length-turned}
use Rattle.ecolor.specs.Colors.{is_transparent}
use Rattle.ecolor.specs.declared.color.Color32.{Color32}
use Rattle.ecolor.specs.declared.vertex.Vertex.{Vertex}
use Rattle.tessellator.specs.Brushes.{plain}
use Rattle.tessellator.specs.Fills.{fill_kind, fill_figure}
use Rattle.tessellator.specs.Kinds.{vertex_count, fewest}
use Rattle.tessellator.specs.Outcome.{nothing}
use Rattle.tessellator.specs.Rows.{row_vertices}
use Rattle.tessellator.specs.Strokes.{Pen, fill_of, filled_kind, kind_of, centred, shrunk, is_clear, hard_rows, thin_rows, thick_rows, style_of, faced, swollen, inset, middle_of, thick_vertices, stroke_with, brush_on, stroke_along, stroke_figure, stroke_kind}
use Rattle.tessellator.specs.declared.kind.Kind.{Kind}
use Rattle.tessellator.specs.declared.kind.Kind.TheVariants.{Nothing, HardFill, FeatheredFill, Line, Loop, Filled}
use Rattle.tessellator.specs.declared.row.Paint.{Paint}
use Rattle.tessellator.specs.declared.stroke.Course.{Course}
use Rattle.tessellator.specs.declared.stroke.Course.TheVariants.{Unjoined, Around}
use Rattle.tessellator.specs.declared.stroke.StrokeKind.{StrokeKind}
use Rattle.tessellator.specs.declared.stroke.StrokeKind.TheVariants.{Inside, Middle, Outside}
use Rattle.tessellator.specs.declared.stroke.Style.{Style}
use Rattle.tessellator.specs.declared.stroke.Style.TheVariants.{Hard, Thin, Thick}
use Rattle.tessellator.proofs.Joining.{length-rows}
use Rattle.tessellator.proofs.Shapes.{Shape, nothing_shape, fill_shape, no_feathering}
use Rattle.tessellator.proofs.Thick.{length-thick}

-- ---- moved points are as many

pub length-faced : (course : Course) (kind : StrokeKind) (points : List PathPoint) → length (faced course kind points) ≡ length points
length-faced course kind points = cond_both _ (turned points) points (λ ps. length ps ≡ length points) (λ e. length-turned points) (λ e. refl)

pub length-centred : (kind : StrokeKind) (width : Float) (points : List PathPoint) → length (centred kind width points) ≡ length points
length-centred Inside width points = length-map points _
length-centred Middle width points = refl
length-centred Outside width points = length-map points _

pub length-shrunk : (kind : StrokeKind) (width : Float) (points : List PathPoint) → length (shrunk kind width points) ≡ length points
length-shrunk Inside width points = length-map points _
length-shrunk Middle width points = length-map points _
length-shrunk Outside width points = refl

pub length-swollen : (feathering width : Float) (fill : Color32) (points : List PathPoint) → length (swollen feathering width fill points) ≡ length points
length-swollen feathering width fill points =
    cond_both (is_transparent fill) _ _ (λ ps. length ps ≡ length points) (λ e. refl)
    (λ e. cond_both (lt width feathering) _ _ (λ ps. length ps ≡ length points) (λ e. length-map points _) (λ e. refl))

pub length-inset : (width : Float) (fill : Color32) (points : List PathPoint) → length (inset width fill points) ≡ length points
length-inset width fill points = cond_both (is_transparent fill) points _ (λ ps. length ps ≡ length points) (λ e. refl) (λ e. length-map points _)

-- ---- kinds of strokes

-- what holds of the kind of a stroke, from what holds of each
by_course : (P : Kind → Type 0) (style : Style) (course : Course) (n : ℕ) → P (Line style) → P (Loop style) → P (filled_kind style n) → P (kind_of style course n)
by_course P style Unjoined n line loop filled = line
by_course P style (Around fill) n line loop filled = cond_both (is_transparent fill) _ _ P (λ e. loop) (λ e. filled)

filled_enough : (style : Style) (n : ℕ) → 2 ≤ n → fewest (filled_kind style n) ≤ n
filled_enough Hard n h = cond_both (ltb n 3) (Loop Hard) (Filled Hard) (λ k. fewest k ≤ n) (λ e. h) (λ e. ltb-false n 3 e)
filled_enough Thin n h = h
filled_enough Thick n h = h

pub kind_enough : (style : Style) (course : Course) (n : ℕ) → 2 ≤ n → fewest (kind_of style course n) ≤ n
kind_enough style course n h = by_course (λ k. fewest k ≤ n) style course n h h (filled_enough style n h)

pub thin_count : (course : Course) (n : ℕ) → vertex_count (kind_of Thin course n) n ≡ 3 * n
thin_count course n = by_course (λ k. vertex_count k n ≡ 3 * n) Thin course n refl refl refl

pub thick_count : (course : Course) (n : ℕ) → vertex_count (kind_of Thick course n) n ≡ 4 * n
thick_count course n = by_course (λ k. vertex_count k n ≡ 4 * n) Thick course n refl refl refl

-- a hard stroke has two vertices to the point, and its fill's
hard_by : (clear few : Bool) (n : ℕ) → 2 * n + vertex_count (cond (clear || few) Nothing (cond (lt plane.zero plane.zero) FeatheredFill HardFill)) n ≡ vertex_count (cond clear (Loop Hard) (cond few (Loop Hard) (Filled Hard))) n
hard_by true few n = omega arith
hard_by false true n = omega arith
hard_by false false n = ap (λ f. 2 * n + vertex_count (cond f FeatheredFill HardFill) n) no_feathering

hard_kinds : (course : Course) (n : ℕ) → 2 * n + vertex_count (fill_kind plane.zero (fill_of course) n) n ≡ vertex_count (kind_of Hard course n) n
hard_kinds Unjoined n = omega arith
hard_kinds (Around fill) n = hard_by (is_transparent fill) (ltb n 3) n

pub hard_count : (brush : Paint → Pos2 → Vertex) (width : Float) (course : Course) (points inner : List PathPoint) → length inner ≡ length points →
    length (row_vertices brush (hard_rows width) points) + length (fill_figure plane.zero (fill_of course) inner).vertices ≡ vertex_count (kind_of Hard course (length points)) (length points)
hard_count brush width course points inner same =
    let n = length points in
    let outer = length-rows brush (hard_rows width) points in
    let fill = (fill_shape plain plane.zero (fill_of course) inner).vertices ∙ ap (λ k. vertex_count (fill_kind plane.zero (fill_of course) k) k) same in
    omega (arith, hard_kinds course n)

-- ---- figures of strokes

module _ (brush : Paint → Pos2 → Vertex) (feathering width : Float) (course : Course) (points : List PathPoint) (many : 2 ≤ length points) where
  thick_long : (c : Course) → length (thick_vertices c feathering width brush points) ≡ 4 * length points
  thick_long Unjoined = length-thick feathering width brush points many
  thick_long (Around fill) = length-rows brush (thick_rows feathering width fill) points ∙ omega arith

  pub with_shape : (style : Style) → Shape (kind_of style course (length points)) (length points) (stroke_with style brush feathering width course points)
  with_shape Hard =
      let inner = inset width (fill_of course) points in
      let long = length-inset width (fill_of course) points in
      record {
        same = refl;
        points = long;
        vertices = length-append (row_vertices brush (hard_rows width) points) (fill_figure plane.zero (fill_of course) inner).vertices ∙ hard_count brush width course points inner long;
        enough = kind_enough Hard course (length points) many;
      }
  with_shape Thin =
      let outer = swollen feathering width (fill_of course) points in
      let long = length-swollen feathering width (fill_of course) points in
      record {
        same = refl;
        points = long;
        vertices = length-rows brush (thin_rows feathering width (fill_of course)) outer ∙ omega arith ∙ sym (thin_count course (length points));
        enough = kind_enough Thin course (length points) many;
      }
  with_shape Thick =
      record { same = refl; points = refl; vertices = thick_long course ∙ sym (thick_count course (length points)); enough = kind_enough Thick course (length points) many }

-- ---- which figure, and which kind

module _ (pen : Pen) where
  pub stroke_few : (points : List PathPoint) → length points < 2 → stroke_figure pen points ≡ nothing points
  stroke_few points few = cond-true _ _ _ (lt-ltb (length points) 2 few)

  module _ (n : ℕ) (many : 2 ≤ n) where
    -- without a width or a colour only the fill
    pub kind_clear : (eq pen.width plane.zero || is_clear pen.plain) ≡ true → stroke_kind pen n ≡ fill_kind pen.feathering (fill_of pen.course) n
    kind_clear clear = cond-false _ _ _ (le-ltb n 2 many) ∙ cond-true _ _ _ clear

    pub kind_along : eq pen.width plane.zero ≡ false → is_clear pen.plain ≡ false → stroke_kind pen n ≡ kind_of (style_of pen.feathering pen.width) pen.course n
    kind_along wide seen = cond-false _ _ _ (le-ltb n 2 many) ∙ cond-false _ _ _ (or_from _ _ wide seen)

  -- every stroke's figure has the size that its kind says
  stroke_by : (few none clear : Bool) (points : List PathPoint) → (few ≡ false → 2 ≤ length points) →
      Shape (cond few Nothing (cond (none || clear) (fill_kind pen.feathering (fill_of pen.course) (length points)) (kind_of (style_of pen.feathering pen.width) pen.course (length points)))) (length points)
      (cond few (nothing points) (cond none (fill_figure pen.feathering (fill_of pen.course) points)
      (cond clear (fill_figure pen.feathering (fill_of pen.course) (shrunk pen.kind pen.width (faced pen.course pen.kind points))) (stroke_along pen (middle_of pen points)))))
  stroke_by true none clear points many = nothing_shape points
  stroke_by false true clear points many = fill_shape plain pen.feathering (fill_of pen.course) points
  stroke_by false false true points many =
      let inner = shrunk pen.kind pen.width (faced pen.course pen.kind points) in
      let long = length-shrunk pen.kind pen.width _ ∙ length-faced pen.course pen.kind points in
      subst (λ (n : ℕ). Shape (fill_kind pen.feathering (fill_of pen.course) n) n (fill_figure pen.feathering (fill_of pen.course) inner)) long (fill_shape plain pen.feathering (fill_of pen.course) inner)
  stroke_by false false false points many =
      let middle = middle_of pen points in
      let long = length-centred pen.kind pen.width _ ∙ length-faced pen.course pen.kind points in
      let style = style_of pen.feathering pen.width in
      subst (λ (n : ℕ). Shape (kind_of style pen.course n) n (stroke_along pen middle)) long
      (with_shape (brush_on pen middle) pen.feathering pen.width pen.course middle (rw long (many refl)) style)

  pub stroke_shape : (points : List PathPoint) → Shape (stroke_kind pen (length points)) (length points) (stroke_figure pen points)
  stroke_shape points = stroke_by (ltb (length points) 2) (eq pen.width plane.zero) (is_clear pen.plain) points (λ e. ltb-false (length points) 2 e)
