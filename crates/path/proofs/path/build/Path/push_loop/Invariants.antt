use Rattle.std.proofs.Common.{drop}
use Rattle.path.specs.Held.{held}
use Rattle.path.specs.Lines.{loop_corners}
use Rattle.path.proofs.Growing.{Growing}
use Rattle.path.proofs.path.build.Path.push_loop.Given as goal

abbrev pub invariant-loop-next : goal.invariant-loop-next
invariant-loop-next l =
    Growing (held l.initial.self) (loop_corners l.closing l.initial.normal l.initial.at l.rest) (held l.self)
    (loop_corners l.closing l.normal l.at (drop l.next-index l.rest))
