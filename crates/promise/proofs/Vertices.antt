-- Rows of vertices: how many there are, and which.
use Rattle.std.proofs.Common.{◌≡◌, ℕ, zero, suc, ◌+◌, ◌-◌, ◌*◌, ◌<◌, ◌≤◌, List, [], ◌∷◌, ◌++◌, length, get_or, sym, refl, ap, ◌∙◌, subst, inl, inr, suc-mul, mul_comm, arith, length-append}
use lib.ListN.{length-map}
use Rattle.std.proofs.lemmas.List.{get_or_append_left, get_or-append_right, get_or-append-add, get_or-map}
use Rattle.std.proofs.lemmas.Bool.{cases_lt}
use Rattle.emath.specs.declared.plane.Pos2.{Pos2}
use Rattle.path.specs.Turns.{no_point}
use Rattle.path.specs.declared.point.PathPoint.{PathPoint}
use Rattle.path.specs.declared.point.Side.TheVariants.{Along}
use Rattle.ecolor.specs.declared.vertex.Vertex.{Vertex}
use Rattle.tessellator.specs.Rows.{vertex_of, vertices_at, row_vertices}
use Rattle.tessellator.specs.declared.row.Paint.{Paint}
use Rattle.tessellator.specs.declared.row.Paint.TheVariants.{Core}
use Rattle.tessellator.specs.declared.row.Row.{Row}
use Rattle.promise.specs.Promise.{at}

-- ---- vertices of joined lists

module _ (xs ys : List Vertex) where
  pub at_left : (k : ℕ) → k < length xs → at (xs ++ ys) k ≡ at xs k
  at_left k h = get_or_append_left xs ys _ k h

  pub at_right : (n k : ℕ) → length xs ≡ n → n ≤ k → at (xs ++ ys) k ≡ at ys (k - n)
  at_right n k long h = get_or-append_right xs ys n k _ long h

-- ---- rows

-- for what lies past the last row
pub some_row : Row
some_row = record { side = Along; paint = Core }

module _ (brush : Paint → Pos2 → Vertex) (these : List Row) where
  pub length-rows : (points : List PathPoint) → length (row_vertices brush these points) ≡ length these * length points
  length-rows [] = omega arith
  length-rows (p ∷ points) =
      let e = length-rows points in
      let a = length-append (vertices_at brush these p) (row_vertices brush these points) in
      let b = length-map these (vertex_of brush p) in
      omega (arith, mul_comm (length these) (suc (length points)), suc-mul (length points) (length these), mul_comm (length points) (length these))

  pub row_vertex : (points : List PathPoint) (i r : ℕ) → i < length points → r < length these →
      at (row_vertices brush these points) (length these * i + r) ≡ vertex_of brush (get_or points i no_point) (get_or these r some_row)
  row_vertex [] i r hi hr = absurd (omega arith)
  row_vertex (p ∷ points) zero r hi hr =
      let here : length these * 0 + r ≡ r = omega arith in
      let long = length-map these (vertex_of brush p) in
      ap (at (row_vertices brush these (p ∷ points))) here
      ∙ at_left (vertices_at brush these p) (row_vertices brush these points) r (omega arith)
      ∙ get_or-map (vertex_of brush p) these r some_row _ hr
  row_vertex (p ∷ points) (suc i) r hi hr =
      let long = length-map these (vertex_of brush p) in
      let there : length these * suc i + r ≡ length (vertices_at brush these p) + (length these * i + r) =
      omega (arith, mul_comm (length these) (suc i), suc-mul i (length these), mul_comm i (length these)) in
      ap (at (row_vertices brush these (p ∷ points))) there
      ∙ get_or-append-add (vertices_at brush these p) (row_vertices brush these points) (length these * i + r) _
      ∙ row_vertex points i r (omega arith) hr

  -- what a brush makes everywhere
  pub every_vertex : (P : Vertex → Type 0) → ((paint : Paint) (place : Pos2) → P (brush paint place)) →
      (points : List PathPoint) (k : ℕ) → k < length (row_vertices brush these points) → P (at (row_vertices brush these points) k)
  every_vertex P made [] k h = absurd (omega arith)
  every_vertex P made (p ∷ points) k h =
      let here = vertices_at brush these p in
      let rest = row_vertices brush these points in
      let long = length-map these (vertex_of brush p) in
      elim (cases_lt k (length here)) [
        | inl l ↦ subst P (sym (at_left here rest k l ∙ get_or-map (vertex_of brush p) these k some_row _ (omega arith))) (made _ _)
        | inr l ↦ subst P (sym (at_right here rest (length here) k refl l))
            (every_vertex P made points (k - length here) (omega (arith, length-append here rest)))
      ]
