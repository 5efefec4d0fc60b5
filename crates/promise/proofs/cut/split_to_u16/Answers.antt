use Rattle.promise.proofs.Never.{stands}
use Rattle.promise.proofs.cut.split_to_u16.Goals as goal

pub returns : goal.returns
returns c = record { outcome = c.split_to_u16.ensures.left; never = stands _ _ c.split_to_u16.ensures.fewest }
