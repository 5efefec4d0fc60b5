use Rattle.std.proofs.Common.{arith}
use Rattle.std.proofs.lemmas.List.{length-map}
use Rattle.slice_vec.specs.Held.{held}
use Rattle.tessellator.specs.Rows.{vertex_of, vertices_at}
use Rattle.tessellator.specs.State.{mesh_state}
use Rattle.tessellator.proofs.Writes.{vertices_put, more_vertices}
use Rattle.tessellator.proofs.mesh.Mesh.add_vertices_at.Goals as goal

pub invariant_of-self : goal.invariant_of-self
invariant_of-self g c =
    let m = c.args.self.now in
    let long = length-map c.args.rows.now (vertex_of (g.B.Brush.paints c.args.brush.now) c.args.point) in
    let more = more_vertices (mesh_state m) (held c.extend_by.new.self) (vertices_at (g.B.Brush.paints c.args.brush.now) c.args.rows.now c.args.point) (omega (arith, c.requires)) c.extend_by.ensures in
    record { triangles = m.triangles; named = λ k h. omega (arith, m.named k h) }

pub returns : goal.returns
returns g c =
    let long = length-map c.args.rows.now (vertex_of (g.B.Brush.paints c.args.brush.now) c.args.point) in
    vertices_put (mesh_state c.args.self.now) _ (vertices_at (g.B.Brush.paints c.args.brush.now) c.args.rows.now c.args.point) (omega (arith, c.requires)) c.extend_by.ensures
