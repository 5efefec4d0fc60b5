-- Hard strokes, whose fill has vertices of its own behind theirs.
use Rattle.std.proofs.Common.{◌≡◌, ℕ, ◌+◌, ◌≤◌, List, ◌++◌, length, sym, ap, ◌∙◌, arith, length-append}
use lib.Ieee.{Float}
use Rattle.emath.specs.Plane as plane
use Rattle.emath.specs.declared.plane.Pos2.{Pos2}
use Rattle.path.specs.declared.point.PathPoint.{PathPoint}
use Rattle.ecolor.specs.declared.color.Color32.{Color32}
use Rattle.ecolor.specs.declared.vertex.Vertex.{Vertex}
use Rattle.tessellator.specs.Fills.{fill_figure}
use Rattle.tessellator.specs.Kinds.{triangles, vertex_count}
use Rattle.tessellator.specs.Outcome.{KindFits, mesh_after}
use Rattle.tessellator.specs.Rows.{row_vertices}
use Rattle.tessellator.specs.State.{MeshState, with_vertices, with_triangles, vertex_room, index_room}
use Rattle.tessellator.specs.Strokes.{fill_of, hard_rows, kind_of, inset, stroke_with}
use Rattle.tessellator.specs.declared.kind.Kind.{Kind}
use Rattle.tessellator.specs.declared.row.Paint.{Paint}
use Rattle.tessellator.specs.declared.row.Row.{Row}
use Rattle.tessellator.specs.declared.stroke.Course.{Course}
use Rattle.tessellator.specs.declared.stroke.Style.TheVariants.{Hard}
use Rattle.tessellator.proofs.Growth.{vertices_added, vertices_step, vertex_room_left, index_room_kept, figure_drawn}
use Rattle.tessellator.proofs.Stroked.{length-inset, hard_count}

-- the rows over `outer`, and then the fill over `inner`
module _ (brush : Paint → Pos2 → Vertex) (feathering width : Float) (course : Course) (points outer inner : List PathPoint) (rows : List Row) (fill : Color32) (m m₁ : MeshState)
    (is-outer : outer ≡ points) (is-rows : rows ≡ hard_rows width) (is-fill : fill ≡ fill_of course) (is-inner : inner ≡ inset width (fill_of course) points)
    (one : m₁ ≡ with_vertices m (row_vertices brush rows outer)) (fits : KindFits (kind_of Hard course (length points)) (length points) m) where
  within : List PathPoint
  within = inset width (fill_of course) points

  ring : List Vertex
  ring = row_vertices brush (hard_rows width) points

  first : List Vertex
  first = row_vertices brush rows outer

  is_ring : first ≡ ring
  unfolding ring first
  is_ring = ap (λ rs. row_vertices brush rs outer) is-rows ∙ ap (row_vertices brush (hard_rows width)) is-outer

  is_within : inner ≡ within
  unfolding within
  is_within = is-inner

  is_filled : (fill_figure plane.zero fill inner).vertices ≡ (fill_figure plane.zero (fill_of course) within).vertices
  is_filled = ap (λ f. (fill_figure plane.zero f inner).vertices) is-fill ∙ ap (λ ps. (fill_figure plane.zero (fill_of course) ps).vertices) is_within

  counted : length ring + length (fill_figure plane.zero (fill_of course) within).vertices ≡ vertex_count (kind_of Hard course (length points)) (length points)
  unfolding ring within
  counted = hard_count brush width course points (inset width (fill_of course) points) (length-inset width (fill_of course) points)

  pub inner_fits : length (fill_figure plane.zero fill inner).vertices ≤ vertex_room m₁
  unfolding first
  inner_fits = vertex_room_left m m₁ _ one _ (omega (arith, ap length is_ring, ap length is_filled, counted, fits.vertices))

  module _ (m₂ : MeshState) (two : m₂ ≡ with_vertices m₁ (fill_figure plane.zero fill inner).vertices) where
    both : m₂ ≡ with_vertices m (ring ++ (fill_figure plane.zero (fill_of course) within).vertices)
    unfolding first
    both = vertices_step m m₁ m₂ first _ _ one two (λ i. sym is_ring i ++ sym is_filled i)

    pub hard_counted : (length m₂.vertices ≡ length m.vertices + vertex_count (kind_of Hard course (length points)) (length points)) × (index_room m₂ ≡ index_room m)
    hard_counted =
        (vertices_added m m₂ _ both ∙ ap (λ k. length m.vertices + k) (length-append ring _ ∙ counted), index_room_kept m m₂ _ both)

    pub hard_drawn : (m₃ : MeshState) (base n : ℕ) (kind : Kind) → base ≡ length m.vertices → n ≡ length points → kind ≡ kind_of Hard course n → m₃ ≡ with_triangles base m₂ (triangles kind n) →
        m₃ ≡ mesh_after (stroke_with Hard brush feathering width course points) m
    unfolding ring within
    hard_drawn m₃ base n kind at is-n is-kind three =
        figure_drawn m m₂ m₃ base _ _ at both
        (three ∙ ap (λ k. with_triangles base m₂ (triangles k n)) is-kind
        ∙ ap (λ j. with_triangles base m₂ (triangles (kind_of Hard course j) j)) is-n
        ∙ ap (λ j. with_triangles base m₂ (triangles (kind_of Hard course (length points)) j)) (sym (length-inset width (fill_of course) points)))
