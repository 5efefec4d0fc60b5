use Rattle.slice_vec.proofs.Writing.{cleared}
use Rattle.slice_vec.proofs.SliceVec.clear.Goals as goal

pub returns : goal.returns
returns g c = cleared c.args.self.now.len c.args.self.now.items.now
