use Rattle.slice_vec.proofs.Writing.{space_is}
use Rattle.slice_vec.proofs.SliceVec.space.Goals as goal

pub returns : goal.returns
returns g c = space_is c.args.self.now
