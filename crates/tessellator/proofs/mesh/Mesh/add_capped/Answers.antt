use Rattle.std.proofs.Common.{refl, arith}
use Rattle.tessellator.proofs.Growth.{triangles_step, index_room_left, vertices_kept}
use Rattle.tessellator.specs.declared.mesh.joint.Joint.TheVariants.{Rows}
use Rattle.tessellator.proofs.Joints.{length-joints}
use Rattle.tessellator.proofs.mesh.Mesh.add_capped.Goals as goal

pub add_joints-requires : goal.add_joints-requires
add_joints-requires c =
    let kept = vertices_kept _ _ _ _ c.add_cap.ensures in
    let fits = c.requires in
    record { some_points = omega arith; some_rows = omega arith; vertices = omega arith; space = index_room_left _ _ _ _ c.add_cap.ensures _ (omega arith) }

pub add_cap-requires-2 : goal.add_cap-requires-2
add_cap-requires-2 c =
    let kept = vertices_kept _ _ _ _ c.add_cap.ensures in
    let kept' = vertices_kept _ _ _ _ c.add_joints.ensures in
    let bands = length-joints (Rows 4) c.args.own.points in
    let fits = c.requires in
    record { vertices = omega arith; space = index_room_left _ _ _ _ c.add_joints.ensures 6 (index_room_left _ _ _ _ c.add_cap.ensures _ (omega arith)) }

pub returns : goal.returns
returns c = triangles_step _ _ _ _ _ _ _ c.add_cap.ensures (triangles_step _ _ _ _ _ _ _ c.add_joints.ensures c.add_cap-2.ensures refl) refl
