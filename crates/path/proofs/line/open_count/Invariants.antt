use Rattle.std.proofs.Common.{◌≡◌, ◌+◌, ◌*◌, ◌≤◌, length, drop}
use Rattle.path.specs.Lines.{open_corners}
use Rattle.path.proofs.line.open_count.Given as goal

abbrev pub invariant-loop-next : goal.invariant-loop-next
invariant-loop-next l =
    (l.count + length (open_corners l.normal l.normal l.at (drop l.next-index l.rest))
    ≡ 2 + length (open_corners l.initial.normal l.initial.normal l.initial.at l.rest))
    × (l.count ≤ 2 + 2 * l.next-index)
