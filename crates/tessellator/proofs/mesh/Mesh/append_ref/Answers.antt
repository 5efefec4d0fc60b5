use Rattle.std.proofs.Common.{◌||◌, length, get_or, sym, ap, ◌∙◌, arith}
use Rattle.emath.specs.Answers.{accepted}
use Rattle.ecolor.specs.Vertices.{same_texture}
use Rattle.tessellator.specs.Outcome.{joined_as, reserved_under}
use Rattle.tessellator.specs.State.{mesh_state, is_empty, joined, with_vertices, with_triangles}
use Rattle.tessellator.specs.Triangles.{triples}
use Rattle.tessellator.proofs.Appending.{joined_is}
use Rattle.tessellator.proofs.Drawn.{space}
use Rattle.tessellator.proofs.Growth.{vertices_added, index_room_kept}
use Rattle.tessellator.proofs.mesh.Mesh.append_ref.Goals as goal

pub copy_triangles-requires : goal.copy_triangles-requires
copy_triangles-requires c =
    let other = c.args.other.now in
    let m = mesh_state c.args.self.now in
    let s = space _ m (is_empty m || same_texture m.texture other.texture_id) (sym c.in_ok-reserve_under.was ∙ c.reserve_under.ensures) in
    let many = ap length c.indices.ensures in
    let kept = index_room_kept _ _ _ c.copy_vertices.ensures in
    let more = vertices_added _ _ _ c.copy_vertices.ensures in
    let vertices = ap length c.vertices.ensures in
    record {
      space = omega (arith, s.1, c.len-2.ensures.count);
      named = λ k h. omega (arith, ap (λ l. get_or l k 0) c.indices.ensures, other.named k (omega arith), c.next_vertex-base.ensures);
    }

pub returns : goal.returns
returns c =
    let other = c.args.other.now in
    let m = mesh_state c.args.self.now in
    let vertices = c.copy_vertices.ensures ∙ ap (with_vertices m) c.vertices.ensures in
    let triangles = c.copy_triangles.ensures ∙ ap (λ is. with_triangles c.next_vertex-base.result (mesh_state c.copy_vertices.new.self) (triples is)) c.indices.ensures in
    let all = joined_is (mesh_state other) m _ _ _ c.next_vertex-base.result other.triangles c.next_vertex-base.ensures vertices triangles c.set_texture.ensures in
    ap (λ s. record { answer = accepted tt; mesh = s }) all
    ∙ ap (λ why. joined_as why (joined (mesh_state other) m) m) (sym c.in_ok-reserve_under.was ∙ c.reserve_under.ensures ∙ (λ i. reserved_under other.texture_id (record { vertices = c.len.ensures.count i; indices = c.len-2.ensures.count i }) m))
