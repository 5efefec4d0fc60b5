use Rattle.std.proofs.Common.{take, arith}
use Rattle.std.proofs.lemmas.List.{length-take-le, take_all}
use Rattle.path.specs.Turns.{no_point}
use Rattle.tessellator.specs.Rows.{vertices_at}
use Rattle.tessellator.proofs.Growth.{vertices_none, vertices_step, vertex_room_left}
use Rattle.tessellator.proofs.Joining.{joined_next, length-rows, one_more_fits}
use Rattle.tessellator.proofs.mesh.Mesh.add_rows.Goals as goal

pub loop-point-init : goal.loop-point-init
loop-point-init g c = vertices_none _

pub add_vertices_at-requires : goal.add_vertices_at-requires
add_vertices_at-requires g c =
    let i = c.loop-point.point-index in
    let points = c.args.points.now in
    let fits = one_more_fits _ i _ _ c.loop-point-test.true c.requires in
    let so_far = length-rows (g.B.Brush.paints c.args.brush.now) c.args.rows.now (take i points) in
    let count = length-take-le i points (omega arith) in
    vertex_room_left _ _ _ c.loop-point.invariant _ (rw (so_far, count) fits)

pub loop-point-preserved : goal.loop-point-preserved
loop-point-preserved g c =
    vertices_step _ _ _ _ _ _ c.loop-point.invariant c.add_vertices_at.ensures
    (joined_next (vertices_at (g.B.Brush.paints c.args.brush.now) c.args.rows.now) c.args.points.now c.loop-point.point-index no_point c.loop-point-test.true)

pub returns : goal.returns
returns g c = let e = take_all c.loop-point.point-index c.args.points.now c.loop-point-test.false in rw e at c.loop-point.invariant
