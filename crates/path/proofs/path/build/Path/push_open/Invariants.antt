use Rattle.std.proofs.Common.{drop}
use Rattle.path.specs.Held.{held}
use Rattle.path.specs.Lines.{open_corners}
use Rattle.path.proofs.Growing.{Growing}
use Rattle.path.proofs.path.build.Path.push_open.Given as goal

abbrev pub invariant-loop-next : goal.invariant-loop-next
invariant-loop-next l =
    Growing (held l.initial.self) (open_corners l.initial.normal l.initial.edge l.initial.at l.rest) (held l.self)
    (open_corners l.normal l.edge l.at (drop l.next-index l.rest))
