-- The places beside a path point.
use Rattle.std.specs.Prelude.{Float}
use Rattle.emath.specs.Plane as plane
use Rattle.emath.specs.declared.plane.Pos2.{Pos2}
use Rattle.path.specs.declared.point.PathPoint.{PathPoint}
use Rattle.path.specs.declared.point.Side.{Side}
use Rattle.path.specs.declared.point.Side.TheVariants.{Outward, Along, Inward, OutwardPast, InwardPast}

abbrev pub outward : Float → PathPoint → Pos2
outward d p = plane.moved p.pos (plane.times p.normal d)

abbrev pub inward : Float → PathPoint → Pos2
inward d p = plane.moved_back p.pos (plane.times p.normal d)

-- past the end of a line: along the normal's quarter turn
abbrev pub past : Float → PathPoint → Pos2 → Pos2
past d p place = plane.moved place (plane.times (plane.rot90 p.normal) d)

abbrev pub place_of : Side → PathPoint → Pos2
place_of (Outward d) p = outward d p
place_of Along p = p.pos
place_of (Inward d) p = inward d p
place_of (OutwardPast d e) p = past e p (outward d p)
place_of (InwardPast d e) p = past e p (inward d p)

abbrev pub moved : Side → PathPoint → PathPoint
moved side p = record { pos = place_of side p; normal = p.normal }
