use Rattle.std.proofs.Common.{◌≡◌, ◌+◌, ◌*◌, ◌/◌, ◌<◌, [], ◌∷◌, ◌++◌, length, get_or, take, sym, ap, ◌∙◌, arith, length-take}
use Rattle.std.proofs.lemmas.List.{take_more, take_all}
use Rattle.tessellator.specs.Triangles.{tri, triples}
use Rattle.tessellator.proofs.Growth.{triangles_none, triangles_step, index_room_left, vertices_kept}
use Rattle.tessellator.proofs.Triples.{length-triples, triple_at, chunk_at}
use Rattle.tessellator.proofs.mesh.Mesh.copy_triangles.Goals as goal

pub loop-triangle-init : goal.loop-triangle-init
loop-triangle-init c = triangles_none _ _

pub push_triangle-requires : goal.push_triangle-requires
push_triangle-requires c =
    let is = c.args.indices.now in
    let k = c.loop-triangle.triangle-index in
    let chunk = get_or c.as_chunks.result.0.now k [] in
    let there : k < length is / 3 = omega (arith, c.loop-triangle-test.true, c.as_chunks.ensures.front_len) in
    let corners = chunk_at is c.as_chunks.result.0.now k [] c.as_chunks.ensures.front there in
    let a : get_or chunk 0 0 ≡ get_or is (3 * k) 0 = cc in
    let b : get_or chunk 1 0 ≡ get_or is (3 * k + 1) 0 = cc in
    let d : get_or chunk 2 0 ≡ get_or is (3 * k + 2) 0 = cc in
    let so_far = length-take k (triples is) in
    let all = length-triples is in
    let kept = vertices_kept _ _ _ _ c.loop-triangle.invariant in
    record {
      space = index_room_left _ _ _ _ c.loop-triangle.invariant 3 (omega (arith, c.requires.space));
      named = (omega (arith, c.requires.named (3 * k) (omega arith)), (omega (arith, c.requires.named (3 * k + 1) (omega arith)), omega (arith, c.requires.named (3 * k + 2) (omega arith))));
    }

pub loop-triangle-preserved : goal.loop-triangle-preserved
loop-triangle-preserved c =
    let is = c.args.indices.now in
    let k = c.loop-triangle.triangle-index in
    let there : k < length is / 3 = omega (arith, c.loop-triangle-test.true, c.as_chunks.ensures.front_len) in
    let all = length-triples is in
    let item = triple_at is k there ∙ sym (chunk_at is c.as_chunks.result.0.now k [] c.as_chunks.ensures.front there) in
    triangles_step _ _ _ _ _ _ _ c.loop-triangle.invariant c.push_triangle.ensures
    (take_more (triples is) k (tri 0 0 0) (omega arith) ∙ ap (λ t. take k (triples is) ++ (t ∷ [])) item)

pub returns : goal.returns
returns c =
    let is = c.args.indices.now in
    let all = length-triples is in
    let e = take_all c.loop-triangle.triangle-index (triples is) (omega (arith, c.loop-triangle-test.false, c.as_chunks.ensures.front_len)) in rw e at c.loop-triangle.invariant
