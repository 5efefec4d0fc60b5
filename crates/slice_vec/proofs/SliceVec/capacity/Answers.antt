use Rattle.slice_vec.proofs.Writing.{capacity_is}
use Rattle.slice_vec.proofs.SliceVec.capacity.Goals as goal

pub returns : goal.returns
returns g c = capacity_is c.args.self.now
