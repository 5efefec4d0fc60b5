use Rattle.std.proofs.Common.{◌≡◌, ◌+◌, ◌-◌, ◌*◌, [], ◌∷◌, refl, arith}
use Rattle.tessellator.specs.Triangles.{tri}
use Rattle.tessellator.proofs.Growth.{triangles_none, triangles_step, index_room_left, vertices_kept, each_more, length-each}
use Rattle.tessellator.proofs.Writes.{point_within}
use Rattle.tessellator.proofs.mesh.Mesh.add_fan.Goals as goal

pub loop-i-init : goal.loop-i-init
loop-i-init c = triangles_none _ _

pub overflow_mul-rows : goal.overflow_mul-rows
overflow_mul-rows c = let k = point_within c.args.self.now _ _ _ (c.loop-i.i + 1) c.requires.vertices (omega arith) in omega arith

pub overflow_add-rows : goal.overflow_add-rows
overflow_add-rows c = let k = point_within c.args.self.now _ _ _ (c.loop-i.i + 1) c.requires.vertices (omega arith) in omega arith

pub push_triangle-requires : goal.push_triangle-requires
push_triangle-requires c =
    let so_far = length-each (λ i. tri (c.args.rows * (i + 1) + c.args.row) c.args.row (c.args.rows * (i + 2) + c.args.row) ∷ []) 1 (λ i. refl) c.loop-i.i in
    let kept = vertices_kept _ _ _ _ c.loop-i.invariant in
    let j = point_within c.args.self.now _ _ _ (c.loop-i.i + 1) c.requires.vertices (omega arith) in
    let k = point_within c.args.self.now _ _ _ (c.loop-i.i + 2) c.requires.vertices (omega arith) in
    let fits = c.requires in
    record { space = index_room_left _ _ _ _ c.loop-i.invariant 3 (omega arith); named = (omega arith, (omega arith, omega arith)) }

pub loop-i-preserved : goal.loop-i-preserved
loop-i-preserved c = triangles_step _ _ _ _ _ _ _ c.loop-i.invariant c.push_triangle.ensures (each_more _ c.loop-i.i)

pub returns : goal.returns
returns c = let e : c.loop-i.i ≡ c.args.own.points - 2 = omega (arith, c.requires.enough) in rw e at c.loop-i.invariant

pub overflow_mul-rows-in-loop-i : goal.overflow_mul-rows-in-loop-i
overflow_mul-rows-in-loop-i c = let k = point_within c.args.self.now _ _ _ (c.loop-i.i + 2) c.requires.vertices (omega arith) in omega arith

pub overflow_add-rows-in-loop-i : goal.overflow_add-rows-in-loop-i
overflow_add-rows-in-loop-i c = let k = point_within c.args.self.now _ _ _ (c.loop-i.i + 2) c.requires.vertices (omega arith) in omega arith
