use Rattle.std.proofs.Common.{[]}
use Rattle.path.specs.Lines.{open_corners}
use Rattle.path.proofs.Growing.{goes_on_by, ends, next_of, last_of}
use Rattle.path.proofs.Corners.{turn_fits, turn_goes_on, open_begins, open_ends}
use Rattle.path.proofs.path.build.Path.push_open.Goals as goal

pub loop-next-init : goal.loop-next-init
loop-next-init c = open_begins _ _ _ _ _ _ c.edge_normal-edge.ensures c.requires c.push.ensures

pub push_corner-requires : goal.push_corner-requires
push_corner-requires c =
    let here = c.loop-next in
    turn_fits _ here.edge _ _ _ _ _ c.edge_normal-edge-in-loop-next.ensures c.between-turn.ensures
    (next_of (open_corners here.normal here.edge here.at) _ _ _ c.loop-next-test.true here.invariant)

pub loop-next-preserved : goal.loop-next-preserved
loop-next-preserved c =
    let here = c.loop-next in
    turn_goes_on _ here.edge _ _ _ _ _ c.edge_normal-edge-in-loop-next.ensures c.between-turn.ensures _
    (next_of (open_corners here.normal here.edge here.at) _ _ _ c.loop-next-test.true here.invariant)
    c.push_corner.ensures

pub returns : goal.returns
returns c =
    let here = c.loop-next in
    let b = last_of (open_corners here.normal here.edge here.at) _ _ c.loop-next-test.false here.invariant in
    open_ends _ _ _ _ _ _ c.edge_normal-edge.ensures _ c.requires c.push.ensures (ends (goes_on_by _ [] _ b c.push-2.ensures))
