use Rattle.std.proofs.Common.{◌-◌, ◌*◌, refl, arith}
use Rattle.tessellator.specs.Joints.{width}
use Rattle.tessellator.proofs.Growth.{triangles_step, index_room_left, vertices_kept, one_and_rest}
use Rattle.tessellator.proofs.Joints.{length-joint}
use Rattle.tessellator.proofs.Writes.{point_within}
use Rattle.tessellator.proofs.mesh.Mesh.add_closed.Goals as goal

pub add_joint-requires : goal.add_joint-requires
add_joint-requires c =
    let last = point_within c.args.self.now _ _ _ (c.args.own.points - 1) c.requires.vertices (omega (arith, c.requires.some_points)) in
    let first = point_within c.args.self.now _ _ _ 0 c.requires.vertices (omega (arith, c.requires.some_points)) in
    let room = one_and_rest c.args.own.points (6 * (width c.args.kind - 1)) c.requires.some_points in
    record { some_rows = c.requires.some_rows; first = omega arith; second = omega arith; space = omega (arith, c.requires.space) }

pub add_joints-requires : goal.add_joints-requires
add_joints-requires c =
    let kept = vertices_kept _ _ _ _ c.add_joint.ensures in
    let room = one_and_rest c.args.own.points (6 * (width c.args.kind - 1)) c.requires.some_points in
    let one = length-joint c.args.kind (c.args.own.points - 1) 0 in
    record { some_points = c.requires.some_points; some_rows = c.requires.some_rows; vertices = omega (arith, c.requires.vertices); space = index_room_left _ _ _ _ c.add_joint.ensures _ (omega (arith, c.requires.space)) }

pub returns : goal.returns
returns c = triangles_step _ _ _ _ _ _ _ c.add_joint.ensures c.add_joints.ensures refl
