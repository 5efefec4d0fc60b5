use Rattle.std.proofs.Common.{[], ◌∷◌, rules}
use Rattle.path.specs.Builders.{open_line}
use Rattle.path.specs.Laws.{Along}
use Rattle.path.specs.Lines.{open_points}
use Rattle.path.proofs.Corners.{open_along}
use Rattle.path.proofs.Extending.{accepts}
use Rattle.path.proofs.Growing.{put_both}
use Rattle.path.proofs.path.build.Path.add_line_segment.Goals as goal

pub returns : goal.returns
returns c =
    let places = c.args.a ∷ c.args.b ∷ [] in
    let both = put_both _ _ _ _ _ (search rules) c.push.ensures c.push-2.ensures in
    let k = accepts (Along places) (open_line places) (open_points places) _ _ (search rules) (open_along places (search rules)) (search rules) (search rules) in
    record { outcome = k.outcome; adds = k.adds }
