use Rattle.std.proofs.Common.{[], ◌∷◌}
use Rattle.slice_vec.specs.Held.{held}
use Rattle.tessellator.specs.State.{mesh_state}
use Rattle.tessellator.specs.Triangles.{tri}
use Rattle.tessellator.proofs.Writes.{triangles_put, whole_triangles, all_named, three_below}
use Rattle.tessellator.proofs.mesh.Mesh.push_triangle.Goals as goal

pub invariant_of-self : goal.invariant_of-self
invariant_of-self c =
    let m = c.args.self.now in
    let named = c.requires.named in
    let next = held c.extend_from_slice.new.self in
    let ts = tri c.args.a c.args.b c.args.c ∷ [] in
    record {
      triangles = whole_triangles (mesh_state m) next c.args.base ts c.requires.space c.extend_from_slice.ensures m.triangles;
      named = all_named (mesh_state m) next c.args.base ts c.requires.space c.extend_from_slice.ensures _ (three_below _ _ _ _ _ m.named named.0 named.1.0 named.1.1);
    }

pub returns : goal.returns
returns c = triangles_put (mesh_state c.args.self.now) _ c.args.base (tri c.args.a c.args.b c.args.c ∷ []) c.requires.space c.extend_from_slice.ensures
