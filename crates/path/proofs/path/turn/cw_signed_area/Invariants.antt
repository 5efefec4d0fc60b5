use Rattle.std.proofs.Common.{◌≡◌, drop}
use Rattle.path.specs.Turns.{area, area_from}
use Rattle.path.proofs.path.turn.cw_signed_area.Given as goal

abbrev pub invariant-loop-point : goal.invariant-loop-point
invariant-loop-point l = area_from l.area l.previous (drop l.point-index l.points) ≡ area l.points
