-- What the kind of a figure says of its size, for fills and strokes.
use Rattle.std.proofs.Common.{◌≡◌, ℕ, ◌*◌, ◌≤◌, Bool, true, false, cond, ltb, List, length, Err, sym, refl, ap, ◌∙◌, subst, arith}
use lib.Ieee.{Float, lt, of_bits}
use Rattle.std.proofs.lemmas.Bool.{cond-true, cond-false, or_parts, ltb-false}
use Rattle.emath.specs.Answers.{accepted}
use Rattle.emath.specs.Plane as plane
use Rattle.emath.specs.declared.plane.Pos2.{Pos2}
use Rattle.path.specs.Turns.{turned}
use Rattle.path.specs.declared.point.PathPoint.{PathPoint}
use Rattle.path.proofs.Turning.{length-turned}
use Rattle.ecolor.specs.Colors.{is_transparent}
use Rattle.ecolor.specs.declared.color.Color32.{Color32}
use Rattle.ecolor.specs.declared.vertex.Vertex.{Vertex}
use Rattle.tessellator.specs.Brushes.{plain, textured}
use Rattle.tessellator.specs.Faults.{told}
use Rattle.tessellator.specs.Fills.{is_unfilled, fill_allowed, fill_kind, filled_with, fill_figure, textured_figure, hard_fill_rows, feathered_fill_rows}
use Rattle.tessellator.specs.Kinds.{triangles, vertex_count, index_count, fewest}
use Rattle.tessellator.specs.Outcome.{Figure, Fits, KindFits, nothing, shaped, size_of, sizing}
use Rattle.tessellator.specs.Rows.{row_vertices}
use Rattle.tessellator.specs.State.{MeshState}
use Rattle.tessellator.specs.declared.fault.FigureFault.TheVariants.{OutOfLimits}
use Rattle.tessellator.specs.declared.kind.Kind.{Kind}
use Rattle.tessellator.specs.declared.kind.Kind.TheVariants.{Nothing, HardFill, FeatheredFill}
use Rattle.tessellator.specs.declared.row.Paint.{Paint}
use Rattle.tessellator.proofs.Counts.{index_count_lem}
use Rattle.tessellator.proofs.Joining.{length-rows}

-- a figure of this kind and of n points
pub record Shape (kind : Kind) (n : ℕ) (figure : Figure) : Type 0 where
  pub same : figure.kind ≡ kind
  pub points : length figure.points ≡ n
  pub vertices : length figure.vertices ≡ vertex_count kind n
  pub enough : fewest kind ≤ n

module _ {kind : Kind} {n : ℕ} {figure : Figure} (shape : Shape kind n figure) where
  indices_is : 3 * length (triangles figure.kind (length figure.points)) ≡ index_count kind n
  indices_is = ap (λ k. 3 * length (triangles k (length figure.points))) shape.same ∙ ap (λ j. 3 * length (triangles kind j)) shape.points ∙ index_count_lem kind n shape.enough

  pub shape_size : record { vertices = vertex_count kind n; indices = index_count kind n } ≡ size_of figure
  shape_size = let v = shape.vertices in let i = indices_is in cc

  pub shape_fits : (m : MeshState) → Fits figure m → KindFits kind n m
  shape_fits m fits = record { vertices = omega (arith, fits.vertices, shape.vertices); indices = omega (arith, fits.indices, indices_is) }

pub nothing_shape : (points : List PathPoint) → Shape Nothing (length points) (nothing points)
nothing_shape points = record { same = refl; points = refl; vertices = refl; enough = omega arith }

-- ---- fills

module _ (brush : Paint → Pos2 → Vertex) (feathering : Float) (color : Color32) (points : List PathPoint) where
  Is : Kind → Figure → Type 0
  Is kind figure = Shape kind (length points) figure

  filled_shape : (few : Bool) (feathered : Bool) → (few ≡ false → 3 ≤ length points) →
      Is (cond few Nothing (cond feathered FeatheredFill HardFill))
      (cond few (nothing points) (cond feathered (shaped FeatheredFill (turned points) (row_vertices brush (feathered_fill_rows feathering color) (turned points))) (shaped HardFill points (row_vertices brush (hard_fill_rows color) points))))
  unfolding Is
  filled_shape true feathered many = nothing_shape points
  filled_shape false true many =
      let long = length-turned points in
      record { same = refl; points = long; vertices = length-rows brush (feathered_fill_rows feathering color) (turned points) ∙ omega arith; enough = many refl }
  filled_shape false false many = record { same = refl; points = refl; vertices = length-rows brush (hard_fill_rows color) points ∙ omega arith; enough = many refl }

  pub filled_many : is_unfilled color (length points) ≡ false → 3 ≤ length points
  filled_many e = ltb-false (length points) 3 (or_parts (is_transparent color) (ltb (length points) 3) e).1

  pub fill_shape : Shape (fill_kind feathering color (length points)) (length points) (filled_with brush feathering color points)
  unfolding Is
  fill_shape = filled_shape (is_unfilled color (length points)) (lt plane.zero feathering) filled_many

  -- which figure it is
  pub unfilled : is_unfilled color (length points) ≡ true → filled_with brush feathering color points ≡ nothing points
  unfilled none = cond-true _ _ _ none

  module _ (some : is_unfilled color (length points) ≡ false) where
    pub feathered : lt plane.zero feathering ≡ true → filled_with brush feathering color points ≡ shaped FeatheredFill (turned points) (row_vertices brush (feathered_fill_rows feathering color) (turned points))
    feathered f = cond-false _ _ _ some ∙ cond-true _ _ _ f

    pub hard : lt plane.zero feathering ≡ false → filled_with brush feathering color points ≡ shaped HardFill points (row_vertices brush (hard_fill_rows color) points)
    hard f = cond-false _ _ _ some ∙ cond-false _ _ _ f

-- a texture makes no difference to the size
pub same_sizing : (rule : Pos2 → Pos2) (feathering : Float) (color : Color32) (points : List PathPoint) → sizing (fill_allowed feathering points) (fill_figure feathering color points) ≡ sizing (fill_allowed feathering points) (textured_figure feathering color rule points)
same_sizing rule feathering color points =
    ap (λ s. cond (fill_allowed feathering points) (accepted s) (told (Err OutOfLimits)))
    (sym (shape_size (fill_shape plain feathering color points)) ∙ shape_size (fill_shape (textured rule) feathering color points))

-- ---- the fill within a hard stroke

pub no_feathering : lt plane.zero plane.zero ≡ false
unfolding lt of_bits
no_feathering = refl

pub inner_fill : (color : Color32) (points : List PathPoint) → is_unfilled color (length points) ≡ false → fill_figure plane.zero color points ≡ shaped HardFill points (row_vertices plain (hard_fill_rows color) points)
inner_fill color points some = hard plain plane.zero color points some no_feathering

-- ---- there is space for the kind, under whichever name
pub fits_as : (kind other : Kind) (n k : ℕ) (m : MeshState) → kind ≡ other → n ≡ k → KindFits kind n m → KindFits other k m
fits_as kind other n k m e f fits = subst (λ (j : ℕ). KindFits other j m) f (subst (λ (c : Kind). KindFits c n m) e fits)
