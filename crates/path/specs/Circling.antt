-- What stands on a circle.
use Rattle.std.specs.Prelude.{◌≡◌, List, map, Float}
use Rattle.emath.specs.Plane as plane
use Rattle.emath.specs.declared.plane.Pos2.{Pos2}
use Rattle.emath.specs.declared.plane.Vec2.{Vec2}
use Rattle.circles.specs.Circles.{Entry, direction, quarter_steps, UnitCircle}
use Rattle.path.specs.Lines.{point}
use Rattle.path.specs.declared.point.PathPoint.{PathPoint}

-- the place in a direction
abbrev pub place_on : Pos2 → Float → Vec2 → Pos2
place_on center radius n = plane.moved center (plane.scaled radius n)

abbrev pub point_on : Pos2 → Float → Vec2 → PathPoint
point_on center radius n = point (place_on center radius n) n

-- A circle of path points: each lies in a direction of the table for the radius, which is its normal.
pub record Circled (center : Pos2) (radius : Float) (points : List PathPoint) : Type 0 where
  pub directions : List Entry
  pub table : UnitCircle (quarter_steps radius) directions
  pub all : points ≡ map (λ e. point_on center radius (direction e)) directions
