use Rattle.std.proofs.Common.{◌≡◌, ◌-◌, refl, arith}
use Rattle.tessellator.specs.Kinds.{cell}
use Rattle.tessellator.proofs.Growth.{triangles_none, triangles_step, index_room_left, vertices_kept, each_more, length-each}
use Rattle.tessellator.proofs.mesh.Mesh.add_band.Goals as goal

pub loop-r-init : goal.loop-r-init
loop-r-init c = triangles_none _ _

pub push_pair-requires : goal.push_pair-requires
push_pair-requires c =
    let so_far = length-each (cell c.args.rows c.args.i c.args.j) 2 (λ r. refl) c.loop-r.r in
    let kept = vertices_kept _ _ _ _ c.loop-r.invariant in
    let fits = c.requires in
    record { space = index_room_left _ _ _ _ c.loop-r.invariant 6 (omega arith); one = (omega arith, (omega arith, omega arith)); other = (omega arith, (omega arith, omega arith)) }

pub loop-r-preserved : goal.loop-r-preserved
loop-r-preserved c = triangles_step _ _ _ _ _ _ _ c.loop-r.invariant c.push_pair.ensures (each_more _ c.loop-r.r)

pub returns : goal.returns
returns c = let e : c.loop-r.r ≡ c.args.rows - 1 = omega arith in rw e at c.loop-r.invariant
