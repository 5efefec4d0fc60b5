use Rattle.std.proofs.Common.{rules}
use lib.Ieee.{le, neg}
use Rattle.emath.proofs.limits.is_coordinate.Goals as goal

pub returns : goal.returns
unfolding le neg
returns c = search rules
