use Rattle.std.proofs.Common.{arith}
use Rattle.slice_vec.specs.Held.{held}
use Rattle.tessellator.specs.State.{mesh_state}
use Rattle.tessellator.proofs.Writes.{vertices_put, more_vertices}
use Rattle.tessellator.proofs.mesh.Mesh.copy_vertices.Goals as goal

pub invariant_of-self : goal.invariant_of-self
invariant_of-self c =
    let m = c.args.self.now in
    let more = more_vertices (mesh_state m) (held c.extend_from_slice.new.self) c.args.vertices.now c.requires c.extend_from_slice.ensures in
    record { triangles = m.triangles; named = λ k h. omega (arith, m.named k h) }

pub returns : goal.returns
returns c = vertices_put (mesh_state c.args.self.now) _ c.args.vertices.now c.requires c.extend_from_slice.ensures
