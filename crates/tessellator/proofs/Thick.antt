-- Thick lines, whose rows are drawn in three parts.
use Rattle.std.proofs.Common.{◌≡◌, ◌+◌, ◌-◌, ◌*◌, ◌≤◌, List, ◌++◌, length, take, drop, refl, ap, ◌∙◌, append_assoc, arith, length-append, length-drop, length-take}
use lib.Ieee.{Float, neg}
use Rattle.std.proofs.lemmas.List.{take_all}
use Rattle.emath.specs.declared.plane.Pos2.{Pos2}
use Rattle.path.specs.declared.point.PathPoint.{PathPoint}
use Rattle.ecolor.specs.Colors.{transparent}
use Rattle.ecolor.specs.declared.vertex.Vertex.{Vertex}
use Rattle.tessellator.specs.Rows.{row_vertices}
use Rattle.tessellator.specs.State.{MeshState, with_vertices, vertex_room, index_room}
use Rattle.tessellator.specs.Strokes.{thick_line, thick_rows, end_rows}
use Rattle.tessellator.specs.declared.row.Paint.{Paint}
use Rattle.tessellator.specs.declared.row.Row.{Row}
use Rattle.tessellator.proofs.Growth.{index_room_kept, vertices_added, vertices_step, vertex_room_left}
use Rattle.tessellator.proofs.Joining.{length-rows}

pub length-thick : (feathering width : Float) (brush : Paint → Pos2 → Vertex) (points : List PathPoint) → 2 ≤ length points → length (thick_line feathering width brush points) ≡ 4 * length points
length-thick feathering width brush points h =
    let n = length points in
    let first = row_vertices brush (end_rows feathering width feathering) (take 1 points) in
    let middle = row_vertices brush (thick_rows feathering width transparent) (take (n - 2) (drop 1 points)) in
    let last = row_vertices brush (end_rows feathering width (neg feathering)) (drop (n - 1) points) in
    omega (
      arith,
      length-append first (middle ++ last),
      length-append middle last,
      length-rows brush (end_rows feathering width feathering) (take 1 points),
      length-take 1 points,
      length-rows brush (thick_rows feathering width transparent) (take (n - 2) (drop 1 points)),
      length-take (n - 2) (drop 1 points),
      length-drop 1 points,
      length-rows brush (end_rows feathering width (neg feathering)) (drop (n - 1) points),
      length-drop (n - 1) points,
    )

-- the parts of a thick line's points as the code cuts them
pub end_part : (points : List PathPoint) → 1 ≤ length points → take (length points - (length points - 1)) (drop (length points - 1) points) ≡ drop (length points - 1) points
end_part points h = take_all _ _ (omega (arith, length-drop (length points - 1) points))

-- A thick line's rows, drawn in three parts: the first point, those between, and the last one.
module _ (feathering width : Float) (brush : Paint → Pos2 → Vertex) (points : List PathPoint) (first middle last : List Row) (m m₁ m₂ : MeshState)
    (at_first : first ≡ end_rows feathering width feathering) (between : middle ≡ thick_rows feathering width transparent)
    (one : m₁ ≡ with_vertices m (row_vertices brush first (take 1 points))) (h : 2 ≤ length points) (room : length points * 4 ≤ vertex_room m) where
  pub middle_fits : length (take (length points - 1 - 1) (drop 1 points)) * length middle ≤ vertex_room m₁
  middle_fits =
      let four = ap (λ k. length (take 1 points) * k) (ap length at_first) in
      let long = length-rows brush first (take 1 points) in
      let left = vertex_room_left m m₁ _ one (length points * 4 - 4) (omega (arith, length-take 1 points)) in
      let also = ap (λ k. length (take (length points - 1 - 1) (drop 1 points)) * k) (ap length between) in
      omega (arith, length-take (length points - 1 - 1) (drop 1 points), length-drop 1 points)

  module _ (two : m₂ ≡ with_vertices m₁ (row_vertices brush middle (take (length points - 1 - 1) (drop 1 points)))) (at_last : last ≡ end_rows feathering width (neg feathering)) where
    both : m₂ ≡ with_vertices m (row_vertices brush first (take 1 points) ++ row_vertices brush middle (take (length points - 1 - 1) (drop 1 points)))
    both = vertices_step m m₁ m₂ _ _ _ one two refl

    pub last_fits : length (take (length points - (length points - 1)) (drop (length points - 1) points)) * length last ≤ vertex_room m₂
    last_fits =
        let front = row_vertices brush first (take 1 points) in
        let rest = row_vertices brush middle (take (length points - 1 - 1) (drop 1 points)) in
        let four = ap (λ k. length (take 1 points) * k) (ap length at_first) in
        let also = ap (λ k. length (take (length points - 1 - 1) (drop 1 points)) * k) (ap length between) in
        let long = length-append front rest in
        let left = vertex_room_left m m₂ _ both 4
        (omega (
          arith,
          length-rows brush first (take 1 points),
          length-take 1 points,
          length-rows brush middle (take (length points - 1 - 1) (drop 1 points)),
          length-take (length points - 1 - 1) (drop 1 points),
          length-drop 1 points,
        )) in
        let end = ap length (end_part points (omega arith)) in
        let too = ap (λ k. length (take (length points - (length points - 1)) (drop (length points - 1) points)) * k) (ap length at_last) in
        omega (arith, length-drop (length points - 1) points)

    pub thick_drawn : (m₃ : MeshState) → m₃ ≡ with_vertices m₂ (row_vertices brush last (take (length points - (length points - 1)) (drop (length points - 1) points))) → m₃ ≡ with_vertices m (thick_line feathering width brush points)
    thick_drawn m₃ three =
        vertices_step m m₂ m₃ _ _ _ both three refl
        ∙ ap (with_vertices m)
        (append_assoc (row_vertices brush first (take 1 points)) _ _
        ∙ (λ i. row_vertices brush (at_first i) (take 1 points)
        ++ (row_vertices brush (between i) (take (twice i) (drop 1 points)) ++ row_vertices brush (at_last i) (end_part points (omega arith) i))))
      where
        twice : length points - 1 - 1 ≡ length points - 2
        twice = omega arith

-- the vertices of a thick line, once drawn
pub thick_counted : (feathering width : Float) (brush : Paint → Pos2 → Vertex) (points : List PathPoint) (m m₁ : MeshState) → 2 ≤ length points →
    m₁ ≡ with_vertices m (thick_line feathering width brush points) → (length m₁.vertices ≡ length m.vertices + 4 * length points) × (index_room m₁ ≡ index_room m)
thick_counted feathering width brush points m m₁ h e =
    (vertices_added m m₁ _ e ∙ ap (λ k. length m.vertices + k) (length-thick feathering width brush points h), index_room_kept m m₁ _ e)
