-- The points of a circle.
use Rattle.std.proofs.Common.{map}
use lib.Ieee.{Float}
use Rattle.std.proofs.lemmas.Simd.{map-map}
use Rattle.emath.specs.declared.plane.Pos2.{Pos2}
use Rattle.circles.specs.Circles.{circle, direction, entries}
use Rattle.circles.proofs.Circles.{unit_circle}
use Rattle.path.specs.Circling.{point_on, Circled}

pub circled : (center : Pos2) (r : Float) → Circled center r (map (point_on center r) (circle r))
unfolding circle
circled center r = record { directions = entries r; table = unit_circle r; all = map-map (point_on center r) direction (entries r) }
