use Rattle.std.proofs.Common.{◌≡◌, fold, map, drop}
use Rattle.emath.specs.Plane.{box_of, widened}
use Rattle.emath.proofs.rect.Rect.from_points.Given as goal

-- the box so far, with the places to come
abbrev pub invariant-loop-point : goal.invariant-loop-point
invariant-loop-point g l = fold widened l.bounds (map g.P.Located.place (drop l.point-index l.points)) ≡ box_of (map g.P.Located.place l.points)
