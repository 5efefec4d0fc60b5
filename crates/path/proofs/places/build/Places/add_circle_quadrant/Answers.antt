use Rattle.std.proofs.Common.{rules}
use Rattle.path.specs.Arcs.{quadrant_count, quadrant_places}
use Rattle.path.specs.Builders.{one_quadrant}
use Rattle.path.specs.Laws.{Numbering}
use Rattle.path.proofs.Arcs.{quadrant_length}
use Rattle.path.proofs.Extending.{accepts}
use Rattle.path.proofs.places.build.Places.add_circle_quadrant.Goals as goal

pub returns-in_err-reserve : goal.returns-in_err-reserve
returns-in_err-reserve c = let long = quadrant_length c.args.center c.args.radius c.args.quadrant (search rules) in search rules

pub push_arc-requires : goal.push_arc-requires
push_arc-requires c = let long = quadrant_length c.args.center c.args.radius c.args.quadrant (search rules) in search rules

pub returns : goal.returns
returns c =
    let center = c.args.center in
    let radius = c.args.radius in
    let quadrant = c.args.quadrant in
    let long = quadrant_length center radius quadrant (search rules) in
    let k = accepts (Numbering (quadrant_count radius)) (one_quadrant center radius quadrant) (quadrant_places center radius quadrant) _ _ (search rules) long (search rules) (search rules) in
    record { outcome = k.outcome; adds = k.adds }
