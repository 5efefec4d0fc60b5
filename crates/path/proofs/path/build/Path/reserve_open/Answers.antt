use Rattle.std.proofs.Common.{arith, rules}
use Rattle.slice_vec.specs.Held as list
use Rattle.path.proofs.Corners.{open_bounds}
use Rattle.path.proofs.path.build.Path.reserve_open.Goals as goal

pub returns-then-rest-space : goal.returns-then-rest-space
returns-then-rest-space c = let long = open_bounds c.args.first c.args.second c.args.rest.now in search rules

pub returns-then-rest-space-2 : goal.returns-then-rest-space-2
returns-then-rest-space-2 c = let long = open_bounds c.args.first c.args.second c.args.rest.now in search rules

pub open_count-requires : goal.open_count-requires
unfolding list.room
open_count-requires c = omega arith
