-- Each stroke is a proper figure.
use Rattle.std.proofs.Common.{◌≡◌, ℕ, zero, suc, ◌+◌, ◌-◌, ◌*◌, ◌<◌, ◌≤◌, true, false, ltb, List, [], ◌++◌, length, get_or, take, drop, Some, None, sym, refl, ap, ◌∙◌, subst, inl, inr, arith, length-append, length-drop, length-take}
use lib.Ieee.{Float, of_bits, neg, lt, eq}
use lib.ListN.{length-map}
use Rattle.std.proofs.lemmas.List.{append-nil}
use Rattle.std.proofs.lemmas.Bool.{cond_both, cond-true, cond-false, ltb-false, cases_lt, or_left, or_right, or_from}
use Rattle.emath.specs.Plane as plane
use Rattle.emath.specs.declared.plane.Pos2.{Pos2}
use Rattle.path.specs.Turns.{turned, no_point}
use Rattle.path.specs.declared.point.PathPoint.{PathPoint}
use Rattle.path.specs.declared.point.Side.{Side}
use Rattle.ecolor.specs.Colors.{is_transparent, transparent}
use Rattle.ecolor.specs.declared.color.Color32.{Color32}
use Rattle.ecolor.specs.declared.vertex.Vertex.{Vertex}
use Rattle.tessellator.specs.Brushes.{colored, plain}
use Rattle.tessellator.specs.Fills.{is_unfilled, fill_figure, hard_fill_rows}
use Rattle.tessellator.specs.Kinds.{rows, vertex_count, fewest}
use Rattle.tessellator.specs.Outcome.{Figure}
use Rattle.tessellator.specs.Rows.{vertex_of, row_vertices}
use Rattle.tessellator.specs.Strokes.{Pen, fill_of, filled_kind, kind_of, centred, shrunk, is_clear, core_between, thick_rows, end_rows, thin_rows, hard_rows, style_of, faced, middle_of, swollen, thick_line, thick_vertices, inset, stroke_with, stroke_figure}
use Rattle.tessellator.specs.declared.kind.Kind.{Kind}
use Rattle.tessellator.specs.declared.kind.Kind.TheVariants.{Loop, Filled}
use Rattle.tessellator.specs.declared.row.Paint.{Paint}
use Rattle.tessellator.specs.declared.row.Row.{Row}
use Rattle.tessellator.specs.declared.stroke.Course.{Course}
use Rattle.tessellator.specs.declared.stroke.Course.TheVariants.{Unjoined, Around}
use Rattle.tessellator.specs.declared.stroke.StrokeKind.{StrokeKind}
use Rattle.tessellator.specs.declared.stroke.StrokeKind.TheVariants.{Inside, Middle, Outside}
use Rattle.tessellator.specs.declared.stroke.Style.{Style}
use Rattle.tessellator.specs.declared.stroke.Style.TheVariants.{Hard, Thin, Thick}
use Rattle.promise.specs.Grown.{Look, stroke_look}
use Rattle.promise.specs.Promise.{point_count, at, style_in, CoreRow, core_colour}
use Rattle.promise.proofs.Apart.{Proper}
use Rattle.promise.proofs.Fills.{length-if, length-turned, none_some, nothing_proper, fill_proper}
use Rattle.promise.proofs.Ranges.{vertex_below}
use Rattle.promise.proofs.Vertices.{at_left, at_right, some_row, length-rows, row_vertex}

-- ---- as many points as before

length-faced : (course : Course) (kind : StrokeKind) (points : List PathPoint) → length (faced course kind points) ≡ length points
length-faced course kind points = length-if _ (turned points) points _ (length-turned points) refl

length-centred : (kind : StrokeKind) (width : Float) (points : List PathPoint) → length (centred kind width points) ≡ length points
length-centred Inside width points = length-map points _
length-centred Middle width points = refl
length-centred Outside width points = length-map points _

length-swollen : (feathering width : Float) (fill : Color32) (points : List PathPoint) → length (swollen feathering width fill points) ≡ length points
length-swollen feathering width fill points =
    length-if (is_transparent fill) points _ _ refl (length-if (lt width feathering) _ points _ (length-map points _) refl)

length-inset : (width : Float) (fill : Color32) (points : List PathPoint) → length (inset width fill points) ≡ length points
length-inset width fill points = length-if (is_transparent fill) points _ _ refl (length-map points _)

-- ---- kinds

-- a kind of stroke in the style s, of n points, with so many vertices more than its rows have
record InStyle (s : Style) (kind : Kind) (n more : ℕ) : Type 0 where
  style : style_in kind ≡ Some s
  enough : fewest kind ≤ n
  sized : rows s * n + more ≡ vertex_count kind n

-- the kind of a stroke, where its fill, if it has one, is known
in_style : (s : Style) (course : Course) (n more : ℕ) → 2 ≤ n → (is_transparent (fill_of course) ≡ true → more ≡ 0) →
    (is_transparent (fill_of course) ≡ false → InStyle s (filled_kind s n) n more) → InStyle s (kind_of s course n) n more
in_style s Unjoined n more few none filled = let z = none refl in record { style = refl; enough = few; sized = omega arith }
in_style s (Around fill) n more few none filled =
    cond_both (is_transparent fill) (Loop s) (filled_kind s n) (λ kind. InStyle s kind n more)
    (λ e. let z = none e in record { style = refl; enough = few; sized = omega arith }) filled

-- ---- cores

-- the vertex has the colour of the core
abbrev Cored : Style → Look → Vertex → Type 0
Cored s look v = v.color ≡ core_colour s look v.pos

abbrev brush_for : Look → Paint → Pos2 → Vertex
brush_for look = colored (look.colour look.box)

-- rows of which those of the core have its colours
abbrev CoredRows : Style → Look → List Row → Type 0
CoredRows s look these = (point : PathPoint) (r : ℕ) → CoreRow s r → Cored s look (vertex_of (brush_for look) point (get_or these r some_row))

between_cored : (look : Look) (first : Side) (inner : Float) (last : Side) (fill : Color32) → CoredRows Thick look (core_between first inner last fill)
between_cored look first inner last fill point r (inl e) = rw e
between_cored look first inner last fill point r (inr e) = rw e

thin_cored : (look : Look) (fill : Color32) → CoredRows Thin look (thin_rows look.feathering look.width fill)
thin_cored look fill point r e = rw e

hard_cored : (look : Look) (width : Float) → CoredRows Hard look (hard_rows width)
hard_cored look width point zero h = refl
hard_cored look width point (suc zero) h = refl
hard_cored look width point (suc (suc r)) h = absurd (omega arith)

pub core_below : (s : Style) (r : ℕ) → CoreRow s r → r < rows s
core_below Hard r h = h
core_below Thin r h = omega arith
core_below Thick r (inl h) = omega arith
core_below Thick r (inr h) = omega arith

-- ---- the vertices of a stroke over n points

record Lined (s : Style) (look : Look) (n : ℕ) (vs : List Vertex) : Type 0 where
  long : length vs ≡ rows s * n
  cored : (i r : ℕ) → i < n → CoreRow s r → Cored s look (at vs (rows s * i + r))

lined : (s : Style) (look : Look) (these : List Row) → length these ≡ rows s → CoredRows s look these → (points : List PathPoint) →
    Lined s look (length points) (row_vertices (brush_for look) these points)
lined s look these many cored points = record {
  long = length-rows (brush_for look) these points ∙ ap (λ R. R * length points) many;
  cored = λ i r hi hr.
      let below = core_below s r hr in
      let e = row_vertex (brush_for look) these points i r hi (omega arith) in
      subst (λ R. Cored s look (at (row_vertices (brush_for look) these points) (R * i + r))) many (subst (Cored s look) (sym e) (cored (get_or points i no_point) r hr));
}

-- a thick line, whose ends have rows of their own
module _ (look : Look) where
  both_lined : (a b : ℕ) (xs ys : List Vertex) → Lined Thick look a xs → Lined Thick look b ys → Lined Thick look (a + b) (xs ++ ys)
  both_lined a b xs ys p q = record {
    long = omega (arith, length-append xs ys, p.long, q.long);
    cored = λ i r hi hr. elim (cases_lt i a) [
      | inl l ↦
          let inside : 4 * i + r < length xs = omega (arith, p.long, core_below Thick r hr) in
          subst (Cored Thick look) (sym (at_left xs ys (4 * i + r) inside)) (p.cored i r l hr)
      | inr l ↦
          let behind : 4 * i + r - 4 * a ≡ 4 * (i - a) + r = omega arith in
          subst (Cored Thick look) (sym (at_right xs ys (4 * a) (4 * i + r) p.long (omega arith) ∙ ap (at ys) behind)) (q.cored (i - a) r (omega arith) hr)
    ];
  }

  line_lined : (points : List PathPoint) → 2 ≤ length points → Lined Thick look (length points) (thick_line look.feathering look.width (brush_for look) points)
  line_lined points few =
      let n : ℕ = length points in
      let front : List PathPoint = take 1 points in
      let middle : List PathPoint = take (n - 2) (drop 1 points) in
      let back : List PathPoint = drop (n - 1) points in
      let all : length front + (length middle + length back) ≡ n =
      omega (arith, length-take 1 points, length-take (n - 2) (drop 1 points), length-drop 1 points, length-drop (n - 1) points) in
      subst (λ k. Lined Thick look k (thick_line look.feathering look.width (brush_for look) points)) all
      (both_lined (length front) (length middle + length back) _ _ (ends look.feathering front)
      (both_lined (length middle) (length back) _ _ (lined Thick look (thick_rows look.feathering look.width transparent) refl (between_cored look _ _ _ transparent) middle) (ends (neg look.feathering) back)))
    where
      ends : (past : Float) (points : List PathPoint) → Lined Thick look (length points) (row_vertices (brush_for look) (end_rows look.feathering look.width past) points)
      ends past points = lined Thick look (end_rows look.feathering look.width past) refl (between_cored look _ _ _ transparent) points

  thick_lined : (course : Course) (points : List PathPoint) → 2 ≤ length points →
      Lined Thick look (length points) (thick_vertices course look.feathering look.width (brush_for look) points)
  thick_lined Unjoined points few = line_lined points few
  thick_lined (Around fill) points few = lined Thick look (thick_rows look.feathering look.width fill) refl (between_cored look _ _ _ fill) points

-- how many vertices the fill within a hard stroke has
module _ (fill : Color32) (points : List PathPoint) where
  abbrev within : ℕ
  within = length (fill_figure plane.zero fill points).vertices

  within_none : is_unfilled fill (length points) ≡ true → within ≡ 0
  within_none e = ap (λ (f : Figure). length f.vertices) (cond-true (is_unfilled fill (length points)) _ _ e)

  within_some : is_unfilled fill (length points) ≡ false → within ≡ length points
  unfolding lt of_bits
  within_some e =
      ap (λ (f : Figure). length f.vertices) (cond-false (is_unfilled fill (length points)) _ _ e)
      ∙ length-rows plain (hard_fill_rows fill) points ∙ omega arith

hard_kind : (course : Course) (inner : List PathPoint) (n : ℕ) → length inner ≡ n → 2 ≤ n → InStyle Hard (kind_of Hard course n) n (within (fill_of course) inner)
hard_kind course inner n count few =
    let fill = fill_of course in
    let more : ℕ = within fill inner in
    in_style Hard course n more few (λ e. within_none fill inner (or_left (is_transparent fill) _ e))
    (λ e. cond_both (ltb n 3) (Loop Hard) (Filled Hard) (λ kind. InStyle Hard kind n more)
    (λ l.
    let z : more ≡ 0 = within_none fill inner (or_right (is_transparent fill) _ (ap (λ k. ltb k 3) count ∙ l)) in
    record { style = refl; enough = few; sized = omega arith })
    (λ l.
    let z : more ≡ length inner = within_some fill inner (or_from (is_transparent fill) _ e (ap (λ k. ltb k 3) count ∙ l)) in
    record { style = refl; enough = ltb-false _ _ l; sized = omega arith }))

-- ---- strokes over points that lie in their middle

-- a figure whose vertices are those of a stroke, and some more
lined_proper : (s : Style) (figure : Figure) (look : Look) (n : ℕ) (stroke more : List Vertex) → point_count figure ≡ n → figure.vertices ≡ stroke ++ more →
    Lined s look n stroke → InStyle s figure.kind n (length more) → look.texture ≡ None → Proper figure look
lined_proper s figure look n stroke more count parts line kind none = record {
  enough = omega (arith, kind.enough);
  sized = ap length parts ∙ length-append stroke more ∙ ap (λ k. k + length more) line.long ∙ kind.sized ∙ ap (vertex_count figure.kind) (sym count);
  coloured = λ t e i r hi hr.
      let same : t ≡ s = let h = kind.style in cc in
      let hr' : CoreRow s r = subst (λ t. CoreRow t r) same hr in
      let inside : rows s * i + r < length stroke = omega (arith, line.long, vertex_below (rows s) i r n (omega arith) (core_below s r hr')) in
      subst (λ t. Cored t look (at figure.vertices (rows t * i + r))) (sym same)
      (subst (Cored s look) (sym (ap (λ vs. at vs (rows s * i + r)) parts ∙ at_left stroke more (rows s * i + r) inside)) (line.cored i r (omega arith) hr'));
  textured = λ rule e k h. none_some (sym none ∙ e);
}

module _ (look : Look) (untextured : look.texture ≡ None) (course : Course) (points : List PathPoint) (few : 2 ≤ length points) where
  abbrev along : Style → Figure
  along s = stroke_with s (brush_for look) look.feathering look.width course points

  along_proper : (s : Style) → Proper (along s) look
  along_proper Hard =
      let inner : List PathPoint = inset look.width (fill_of course) points in
      let count : length inner ≡ length points = length-inset look.width (fill_of course) points in
      lined_proper Hard (along Hard) look (length points) _ (fill_figure plane.zero (fill_of course) inner).vertices count refl
      (lined Hard look (hard_rows look.width) refl (hard_cored look look.width) points) (hard_kind course inner (length points) count few) untextured
  along_proper Thin =
      let outer : List PathPoint = swollen look.feathering look.width (fill_of course) points in
      let count : length outer ≡ length points = length-swollen look.feathering look.width (fill_of course) points in
      lined_proper Thin (along Thin) look (length points) _ [] count (sym (append-nil (along Thin).vertices))
      (subst (λ n. Lined Thin look n (along Thin).vertices) count (lined Thin look (thin_rows look.feathering look.width (fill_of course)) refl (thin_cored look (fill_of course)) outer))
      (in_style Thin course (length points) 0 few (λ _. refl) (λ _. record { style = refl; enough = few; sized = omega arith })) untextured
  along_proper Thick =
      lined_proper Thick (along Thick) look (length points) _ [] refl (sym (append-nil (along Thick).vertices)) (thick_lined look course points few)
      (in_style Thick course (length points) 0 few (λ _. refl) (λ _. record { style = refl; enough = few; sized = omega arith })) untextured

-- ---- all strokes

pub stroke_proper : (pen : Pen) (points : List PathPoint) → Proper (stroke_figure pen points) (stroke_look pen points)
stroke_proper pen points =
    let look = stroke_look pen points in
    let fill = fill_of pen.course in
    let facing = faced pen.course pen.kind points in
    cond_both (ltb (length points) 2) _ _ (λ (f : Figure). Proper f look) (λ _. nothing_proper points look)
    (λ e. cond_both (eq pen.width plane.zero) _ _ (λ (f : Figure). Proper f look) (λ _. fill_proper pen.feathering fill points look refl)
    (λ _. cond_both (is_clear pen.plain) _ _ (λ (f : Figure). Proper f look) (λ _. fill_proper pen.feathering fill (shrunk pen.kind pen.width facing) look refl)
    (λ _.
    let few : 2 ≤ length points = ltb-false _ _ e in
    along_proper look refl pen.course (middle_of pen points) (omega (arith, length-centred pen.kind pen.width facing, length-faced pen.course pen.kind points))
    (style_of pen.feathering pen.width))))
