-- The winding of a path, and the path turned.
use Rattle.std.specs.Prelude.{◌-◌, if◌then◌else◌, List, [], ◌∷◌, map, reverse, length, from_bits, slice_index_or, Float}
use Rattle.std.specs.Float.{binary64, nan}
use Rattle.std.specs.Float.Ieee.{add, sub, mul, lt}
use Rattle.emath.specs.Plane as plane
use Rattle.emath.specs.declared.plane.Pos2.{Pos2}
use Rattle.path.specs.declared.point.PathPoint.{PathPoint}

abbrev pub wedge : Pos2 → Pos2 → Float
wedge a b = sub binary64 (mul binary64 a.x b.y) (mul binary64 b.x a.y)

-- The sum over neighbours, worked in f64: `sum` so far, and the place before the rest.
abbrev pub area_from : Float → Pos2 → List PathPoint → Float
area_from sum before [] = sum
area_from sum before (p ∷ rest) = area_from (add binary64 sum (wedge before p.pos)) p.pos rest

-- a point for what lies past a path's end, where no draw reads
abbrev pub no_point : PathPoint
no_point = record { pos = record { x = nan; y = nan }; normal = record { x = nan; y = nan } }

-- twice the area within, which is negative where the path runs counterclockwise
abbrev pub area : List PathPoint → Float
area points = area_from (from_bits binary64 0) (slice_index_or points (length points - 1) no_point).pos points

abbrev pub flipped : PathPoint → PathPoint
flipped p = record { pos = p.pos; normal = plane.opposite p.normal }

abbrev pub turned : List PathPoint → List PathPoint
turned points = if lt (area points) (from_bits binary64 0) then map flipped (reverse points) else points
