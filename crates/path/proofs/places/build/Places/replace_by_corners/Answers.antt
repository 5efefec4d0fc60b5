use Rattle.std.proofs.Common.{rules}
use Rattle.path.specs.Arcs.{joined}
use Rattle.path.proofs.Arcs.{joined_length}
use Rattle.path.specs.Held.{held}
use Rattle.path.proofs.Extending.{all_anew}
use Rattle.path.proofs.places.build.Places.replace_by_corners.Goals as goal

pub push_corners-requires : goal.push_corners-requires
push_corners-requires c = let long = joined_length c.args.corners in search rules

pub returns-in_err-reserve_all : goal.returns-in_err-reserve_all
returns-in_err-reserve_all c = let long = joined_length c.args.corners in search rules

pub returns : goal.returns
returns c =
    let long = joined_length c.args.corners in
    all_anew (held c.args.self.now) _ _ (joined c.args.corners) c.clear.ensures (search rules) c.push_corners.ensures
