use Rattle.std.proofs.Common.{◌+◌, ◌*◌, ◌^◌, ◌<◌, ◌≤◌}
use Rattle.emath.proofs.root.nearest_root.Given as goal

-- the root is at most half above the estimate
abbrev pub invariant-loop-root : goal.invariant-loop-root
invariant-loop-root l = (l.root ≤ 2 ^ 25) × (4 * l.n < (2 * l.root + 1) * (2 * l.root + 1))

abbrev pub decreases-loop-root : goal.decreases-loop-root
decreases-loop-root l = l.root
