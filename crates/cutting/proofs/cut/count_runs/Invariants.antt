use Rattle.std.proofs.Common.{map}
use Rattle.tessellator.specs.Triangles.{named}
use Rattle.cutting.proofs.Tallies.{Tally}
use Rattle.cutting.proofs.cut.count_runs.Given as goal

abbrev pub invariant-loop-run : goal.invariant-loop-run
invariant-loop-run l = Tally (map named l.fn.triangles) (map named l.run-iterator.0.now) l.passed l.count
