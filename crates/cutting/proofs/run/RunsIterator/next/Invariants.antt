use Rattle.std.proofs.Common.{◌≡◌, ◌+◌, map}
use Rattle.tessellator.specs.Triangles.{named}
use Rattle.cutting.proofs.Counting.{triangle}
use Rattle.cutting.proofs.Running.{Running}
use Rattle.cutting.proofs.run.RunsIterator.next.Given as goal

abbrev pub invariant-run : goal.invariant-run
invariant-run l = (l.end ≡ l.triangle-index + 1) × Running (triangle (map named l.self.0.now) 0) (map named l.others) l.triangle-index l.span
