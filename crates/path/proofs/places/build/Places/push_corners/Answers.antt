use Rattle.std.proofs.Common.{◌∙◌}
use Rattle.path.specs.Arcs.{arc_places, joined}
use Rattle.path.proofs.Growing.{begins, has_room, goes_on}
use Rattle.path.proofs.places.build.Places.push_corners.Goals as goal

pub push_arc-requires : goal.push_arc-requires
push_arc-requires c = has_room (arc_places c.args.corners.se) _ (begins _ (joined c.args.corners) c.requires)

pub push_arc-requires-2 : goal.push_arc-requires-2
push_arc-requires-2 c =
    let k = c.args.corners in
    let se = goes_on (arc_places k.se) _ _ (begins _ (joined k) c.requires) c.push_arc.ensures in
    has_room (arc_places k.sw) _ se

pub push_arc-requires-3 : goal.push_arc-requires-3
push_arc-requires-3 c =
    let k = c.args.corners in
    let se = goes_on (arc_places k.se) _ _ (begins _ (joined k) c.requires) c.push_arc.ensures in
    let sw = goes_on (arc_places k.sw) _ _ se c.push_arc-2.ensures in
    has_room (arc_places k.nw) _ sw

pub push_arc-requires-4 : goal.push_arc-requires-4
push_arc-requires-4 c =
    let k = c.args.corners in
    let se = goes_on (arc_places k.se) _ _ (begins _ (joined k) c.requires) c.push_arc.ensures in
    let sw = goes_on (arc_places k.sw) _ _ se c.push_arc-2.ensures in
    let nw = goes_on (arc_places k.nw) _ _ sw c.push_arc-3.ensures in
    nw.fit

pub returns : goal.returns
returns c =
    let k = c.args.corners in
    let se = goes_on (arc_places k.se) _ _ (begins _ (joined k) c.requires) c.push_arc.ensures in
    let sw = goes_on (arc_places k.sw) _ _ se c.push_arc-2.ensures in
    let nw = goes_on (arc_places k.nw) _ _ sw c.push_arc-3.ensures in
    c.push_arc-4.ensures ∙ nw.same
