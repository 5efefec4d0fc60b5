use Rattle.std.proofs.Common.{refl, arith}
use Rattle.tessellator.specs.declared.mesh.joint.Joint.TheVariants.{Plank}
use Rattle.tessellator.proofs.Joints.{length-joints}
use Rattle.tessellator.proofs.Growth.{triangles_step, index_room_left, vertices_kept}
use Rattle.tessellator.proofs.mesh.Mesh.add_hard_loop.Goals as goal

pub add_plank-requires : goal.add_plank-requires
add_plank-requires c =
    let kept = vertices_kept _ _ _ _ c.add_joints.ensures in
    let long = length-joints Plank c.args.own.points in
    let fits = c.requires in
    record { some_rows = omega arith; first = omega arith; second = omega arith; space = index_room_left _ _ _ _ c.add_joints.ensures 6 (omega arith) }

pub returns : goal.returns
returns c = triangles_step _ _ _ _ _ _ _ c.add_joints.ensures c.add_plank.ensures refl
