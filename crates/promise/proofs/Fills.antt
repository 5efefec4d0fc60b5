-- Each fill is a proper figure.
use Rattle.std.proofs.Common.{◌≡◌, ℕ, ◌<◌, ◌≤◌, Bool, true, false, cond, List, [], map, reverse, length, Some, None, Option, sym, refl, ap, ◌∙◌, arith}
use lib.Ieee.{Float, lt}
use lib.ListN.{length-map, length-reverse}
use Rattle.std.proofs.lemmas.Bool.{cond_both, cond-true, ltb-false, or_parts, or_left}
use Rattle.emath.specs.Plane as plane
use Rattle.emath.specs.declared.plane.Pos2.{Pos2}
use Rattle.path.specs.Turns.{turned, flipped}
use Rattle.path.specs.declared.point.PathPoint.{PathPoint}
use Rattle.ecolor.specs.Colors.{is_transparent}
use Rattle.ecolor.specs.declared.color.Color32.{Color32}
use Rattle.ecolor.specs.declared.vertex.Vertex.{Vertex}
use Rattle.tessellator.specs.Brushes.{plain, textured}
use Rattle.tessellator.specs.Fills.{hard_fill_rows, feathered_fill_rows, is_unfilled, filled_with, fill_figure, textured_figure}
use Rattle.tessellator.specs.Outcome.{Figure, nothing, triangles_of}
use Rattle.tessellator.specs.Rows.{row_vertices}
use Rattle.tessellator.specs.declared.row.Paint.{Paint}
use Rattle.tessellator.specs.declared.row.Row.{Row}
use Rattle.promise.specs.Grown.{Look, fill_look}
use Rattle.promise.specs.Promise.{at}
use Rattle.promise.proofs.Apart.{Proper}
use Rattle.promise.proofs.Vertices.{length-rows, every_vertex}

-- as many points as before
pub length-if : (b : Bool) (xs ys : List PathPoint) (n : ℕ) → length xs ≡ n → length ys ≡ n → length (cond b xs ys) ≡ n
length-if true xs ys n h k = h
length-if false xs ys n h k = k

pub length-turned : (points : List PathPoint) → length (turned points) ≡ length points
length-turned points = length-if _ (map flipped (reverse points)) points _ (length-map (reverse points) flipped ∙ length-reverse points) refl

pub none_some : {A B : Type 0} {x : B} → ◌≡◌ {A = Option B} None (Some x) → A
none_some e = absurd (let z : ◌≡◌ {A = ℕ} 0 1 = cc in omega arith)

pub nothing_proper : (points : List PathPoint) (look : Look) → Proper (nothing points) look
nothing_proper points look = record {
  enough = omega arith;
  sized = refl;
  coloured = λ s e i r hi hr. none_some e;
  textured = λ rule e k h. absurd (omega arith);
}

module _ (brush : Paint → Pos2 → Vertex) (look : Look)
    (made : (these : List Row) (points : List PathPoint) (rule : Pos2 → Pos2) → look.texture ≡ Some rule → (k : ℕ) → k < length (row_vertices brush these points) →
    (at (row_vertices brush these points) k).uv ≡ rule (at (row_vertices brush these points) k).pos) where
  filled_proper : (feathering : Float) (color : Color32) (points : List PathPoint) → Proper (filled_with brush feathering color points) look
  filled_proper feathering color points =
      cond_both (is_unfilled color (length points)) _ _ (λ (f : Figure). Proper f look) (λ _. nothing_proper points look)
      (λ e.
      let few : 3 ≤ length points = ltb-false _ _ (or_parts (is_transparent color) _ e).1 in
      cond_both (lt plane.zero feathering) _ _ (λ (f : Figure). Proper f look)
      (λ _.
      let long = length-rows brush (feathered_fill_rows feathering color) (turned points) in
      record {
        enough = omega (arith, length-turned points);
        sized = long;
        coloured = λ s e i r hi hr. none_some e;
        textured = λ rule e k h. made (feathered_fill_rows feathering color) (turned points) rule e k (omega arith);
      })
      (λ _.
      let long = length-rows brush (hard_fill_rows color) points in
      record {
        enough = few;
        sized = omega arith;
        coloured = λ s e i r hi hr. none_some e;
        textured = λ rule e k h. made (hard_fill_rows color) points rule e k (omega arith);
      }))

pub fill_proper : (feathering : Float) (color : Color32) (points : List PathPoint) (look : Look) → look.texture ≡ None → Proper (fill_figure feathering color points) look
fill_proper feathering color points look none = filled_proper plain look (λ these points rule e k h. none_some (sym none ∙ e)) feathering color points

pub textured_proper : (feathering : Float) (color : Color32) (rule : Pos2 → Pos2) (points : List PathPoint) → Proper (textured_figure feathering color rule points) (fill_look (Some rule))
textured_proper feathering color rule points = filled_proper (textured rule) (fill_look (Some rule))
    (λ these points other e k h.
    let same : rule ≡ other = cc in
    every_vertex (textured rule) these (λ v. v.uv ≡ other v.pos) (λ paint place. ap (λ (g : Pos2 → Pos2). g place) same) points k h)
    feathering color points

-- nothing is drawn of a transparent fill
pub clear_empty : (feathering : Float) (color : Color32) (rule : Pos2 → Pos2) (points : List PathPoint) → is_transparent color ≡ true →
    ((textured_figure feathering color rule points).vertices ≡ []) × (triangles_of (textured_figure feathering color rule points) ≡ [])
clear_empty feathering color rule points e =
    let is = cond-true (is_unfilled color (length points)) _ _ (or_left (is_transparent color) _ e) in
    (ap (λ (f : Figure). f.vertices) is, ap triangles_of is)
