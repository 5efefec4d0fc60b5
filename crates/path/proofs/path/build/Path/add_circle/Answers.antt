use Rattle.std.proofs.Common.{map, ap, ◌∙◌, rules}
use Rattle.std.proofs.lemmas.List.{length-map}
use Rattle.path.specs.Builders.{whole_circle}
use Rattle.circles.specs.Circles.{circle}
use Rattle.path.specs.Circling.{Circled, point_on}
use Rattle.path.proofs.Circling.{circled}
use Rattle.slice_vec.specs.Held.{pushed}
use Rattle.path.specs.Held.{held}
use Rattle.path.proofs.Extending.{accepts}
use Rattle.path.proofs.Growing.{put}
use Rattle.path.proofs.path.build.Path.add_circle.Goals as goal

pub returns-in_err-reserve : goal.returns-in_err-reserve
returns-in_err-reserve c = let long = length-map (circle c.args.radius) (point_on c.args.center c.args.radius) in search rules

pub returns : goal.returns
returns c =
    let center = c.args.center in
    let radius = c.args.radius in
    let long = length-map (circle radius) (point_on center radius) in
    let points = map (point_on center radius) (circle radius) in
    let grown = put (held c.args.self.now) _ points (search rules) (c.extend_by.ensures ∙ ap (λ l. pushed 1048576 (held c.args.self.now) (map (point_on center radius) l)) c.circle_for-directions.ensures.table) in
    let k = accepts (Circled center radius) (whole_circle center radius) points _ _ (search rules) (circled center radius) (search rules) grown in
    record { outcome = k.outcome; adds = k.adds }
