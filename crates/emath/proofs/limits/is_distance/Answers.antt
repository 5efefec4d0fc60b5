use Rattle.std.proofs.Common.{rules}
use lib.Ieee.{le, of_bits}
use Rattle.emath.proofs.limits.is_distance.Goals as goal

pub returns : goal.returns
unfolding le of_bits
returns c = search rules
