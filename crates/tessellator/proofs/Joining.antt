-- Lists that are joined from a part for each point.
use Rattle.std.proofs.Common.{◌≡◌, ℕ, suc, ◌+◌, ◌*◌, ◌<◌, ◌≤◌, List, [], ◌∷◌, ◌++◌, length, get_or, take, sym, ap, ◌∙◌, mul-le-mul_right, suc-mul, zero-mul, arith, length-append}
use Rattle.std.specs.List.{flat_map}
use Rattle.std.proofs.lemmas.List.{take_more, flat_map_more, length-map}
use Rattle.emath.specs.declared.plane.Pos2.{Pos2}
use Rattle.path.specs.declared.point.PathPoint.{PathPoint}
use Rattle.tessellator.specs.Rows.{vertex_of, vertices_at, row_vertices}
use Rattle.ecolor.specs.declared.vertex.Vertex.{Vertex}
use Rattle.tessellator.specs.declared.row.Paint.{Paint}
use Rattle.tessellator.specs.declared.row.Row.{Row}

module _ {X Y : Type 0} (f : X → List Y) where
  pub joined_next : (xs : List X) (i : ℕ) (d : X) → i < length xs → flat_map f (take (i + 1) xs) ≡ flat_map f (take i xs) ++ f (get_or xs i d)
  joined_next xs i d h = ap (flat_map f) (take_more xs i d h) ∙ sym (flat_map_more f [] (take i xs) (get_or xs i d))

  pub length-joined : (k : ℕ) → ((x : X) → length (f x) ≡ k) → (xs : List X) → length (flat_map f xs) ≡ length xs * k
  length-joined k each [] = sym (zero-mul k)
  length-joined k each (x ∷ xs) =
      let e = length-joined k each xs in
      let h = each x in
      rw (length-append, suc-mul) (omega arith)

pub length-rows : (brush : Paint → Pos2 → Vertex) (rows : List Row) (points : List PathPoint) → length (row_vertices brush rows points) ≡ length points * length rows
length-rows brush rows points = length-joined (vertices_at brush rows) (length rows) (λ p. length-map rows (vertex_of brush p)) points

-- k things more, at a place before the last of n places that have k things each
pub one_more_fits : (k i n room : ℕ) → i < n → n * k ≤ room → i * k + k ≤ room
one_more_fits k i n room h r =
    let le : suc i ≤ n = omega arith in
    omega (arith, mul-le-mul_right k le, suc-mul i k)
