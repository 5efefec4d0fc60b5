use Rattle.std.proofs.Common.{rules}
use Rattle.path.specs.Arcs.{square}
use Rattle.path.specs.Held.{held}
use Rattle.path.proofs.Extending.{all_anew}
use Rattle.path.proofs.places.build.Places.replace_by_square.Goals as goal

pub returns : goal.returns
returns c = all_anew (held c.args.self.now) _ _ (square c.args.rect) c.clear.ensures (search rules) c.push_square.ensures
