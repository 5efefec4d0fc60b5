use Rattle.std.proofs.Common.{[], ◌∷◌, rules}
use Rattle.path.specs.Builders.{one_point}
use Rattle.path.specs.Laws.{Along, once, done}
use Rattle.path.proofs.Extending.{accepts}
use Rattle.path.proofs.Growing.{put}
use Rattle.path.proofs.path.build.Path.add_point.Goals as goal

pub returns : goal.returns
returns c =
    let pos = c.args.pos in
    let normal = c.args.normal in
    let k = accepts (Along (pos ∷ [])) (one_point pos normal) _ _ _ (search rules) (once pos normal done) (search rules) (put _ _ (_ ∷ []) (search rules) c.push.ensures) in
    record { outcome = k.outcome; adds = k.adds }
