use Rattle.std.proofs.Common.{◌+◌, ◌<◌, ℕ, [], ◌∷◌, ◌++◌, length, get_or, append_assoc, subst}
use Rattle.slice_vec.specs.Held.{held}
use Rattle.tessellator.specs.State.{mesh_state}
use Rattle.tessellator.specs.Triangles.{named}
use Rattle.tessellator.proofs.Writes.{triangles_put, whole_triangles, all_named, three_below}
use Rattle.tessellator.proofs.mesh.Mesh.push_pair.Goals as goal

pub invariant_of-self : goal.invariant_of-self
invariant_of-self c =
    let m = c.args.self.now in
    let is = (mesh_state m).indices in
    let n = length (mesh_state m).vertices in
    let x = c.args.base + get_or c.args.first 0 0 in
    let y = c.args.base + get_or c.args.first 1 0 in
    let z = c.args.base + get_or c.args.first 2 0 in
    let u = c.args.base + get_or c.args.second 0 0 in
    let v = c.args.base + get_or c.args.second 1 0 in
    let w = c.args.base + get_or c.args.second 2 0 in
    let one = c.requires.one in
    let other = c.requires.other in
    let next = held c.extend_from_slice.new.self in
    let ts = named c.args.first ∷ named c.args.second ∷ [] in
    let first = three_below is x y z n m.named one.0 one.1.0 one.1.1 in
    let both = three_below (is ++ x ∷ y ∷ z ∷ []) u v w n first other.0 other.1.0 other.1.1 in
    record {
      triangles = whole_triangles (mesh_state m) next c.args.base ts c.requires.space c.extend_from_slice.ensures m.triangles;
      named = all_named (mesh_state m) next c.args.base ts c.requires.space c.extend_from_slice.ensures n
          (subst (λ l. (k : ℕ) → k < length l → get_or l k 0 < n) (append_assoc is (x ∷ y ∷ z ∷ []) (u ∷ v ∷ w ∷ [])) both);
    }

pub returns : goal.returns
returns c = triangles_put (mesh_state c.args.self.now) _ c.args.base (named c.args.first ∷ named c.args.second ∷ []) c.requires.space c.extend_from_slice.ensures
