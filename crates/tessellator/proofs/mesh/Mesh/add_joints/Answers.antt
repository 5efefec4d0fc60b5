use Rattle.std.proofs.Common.{◌≡◌, suc, ◌+◌, ◌-◌, ◌*◌, ◌≤◌, mul-le-mul_right, suc-mul, arith}
use Rattle.tessellator.specs.Joints.{width}
use Rattle.tessellator.proofs.Growth.{triangles_none, triangles_step, index_room_left, vertices_kept, each_more}
use Rattle.tessellator.proofs.Joints.{length-each_joint}
use Rattle.tessellator.proofs.Writes.{point_within}
use Rattle.tessellator.proofs.mesh.Mesh.add_joints.Goals as goal

pub loop-i-init : goal.loop-i-init
loop-i-init c = triangles_none _ _

pub add_joint-requires : goal.add_joint-requires
add_joint-requires c =
    let each = 6 * (width c.args.kind - 1) in
    let i = point_within c.args.self.now _ _ _ c.loop-i.i c.requires.vertices (omega arith) in
    let j = point_within c.args.self.now _ _ _ (c.loop-i.i + 1) c.requires.vertices (omega arith) in
    let kept = vertices_kept _ _ _ _ c.loop-i.invariant in
    let so_far = length-each_joint c.args.kind c.loop-i.i in
    let one_more : suc c.loop-i.i ≤ c.args.own.points - 1 = omega arith in
    let more = mul-le-mul_right each one_more in
    let split = suc-mul c.loop-i.i each in
    record { some_rows = c.requires.some_rows; first = omega arith; second = omega arith; space = index_room_left _ _ _ _ c.loop-i.invariant _ (omega (arith, c.requires.space)) }

pub loop-i-preserved : goal.loop-i-preserved
loop-i-preserved c = triangles_step _ _ _ _ _ _ _ c.loop-i.invariant c.add_joint.ensures (each_more _ c.loop-i.i)

pub returns : goal.returns
returns c = let e : c.loop-i.i ≡ c.args.own.points - 1 = omega (arith, c.requires.some_points) in rw e at c.loop-i.invariant
