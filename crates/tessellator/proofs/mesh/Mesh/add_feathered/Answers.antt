use Rattle.std.proofs.Common.{refl, arith}
use Rattle.tessellator.proofs.Counts.{length-fan}
use Rattle.tessellator.proofs.Growth.{triangles_step, index_room_left, vertices_kept}
use Rattle.tessellator.proofs.mesh.Mesh.add_feathered.Goals as goal

pub add_closed-requires : goal.add_closed-requires
add_closed-requires c =
    let kept = vertices_kept _ _ _ _ c.add_fan.ensures in
    let long = length-fan 2 0 c.args.own.points in
    let fits = c.requires in
    record { some_points = omega arith; some_rows = omega arith; vertices = omega arith; space = index_room_left _ _ _ _ c.add_fan.ensures _ (omega arith) }

pub returns : goal.returns
returns c = triangles_step _ _ _ _ _ _ _ c.add_fan.ensures c.add_closed.ensures refl
