use Rattle.std.proofs.Common.{map, length, ap, ◌∙◌, rules}
use Rattle.tessellator.specs.State.{finished_state}
use Rattle.tessellator.specs.Triangles.{triples, named}
use Rattle.cutting.specs.Cutting.{cut}
use Rattle.cutting.specs.Outcome.{on_front}
use Rattle.cutting.specs.Parts.{parts_from}
use Rattle.tessellator.proofs.Triples.{named_chunks}
use Rattle.cutting.proofs.Finished.{proper}
use Rattle.cutting.proofs.Splitting.{run_count_lem, runs_refused, runs_declined, runs_placed}
use Rattle.cutting.proofs.cut.split_runs.Goals as goal

pub returns-in_err-count : goal.returns-in_err-count
returns-in_err-count c =
    let m = c.args.mesh.now in
    let triangles = ap (map named) c.as_chunks.ensures.front ∙ named_chunks c.indices-source.result.now ∙ ap triples c.indices-source.ensures in
    let e = runs_refused (finished_state m) _ c.args.indices.now c.args.parts.now triangles _ c.in_err-count.ensures in
    search rules

pub returns-in_err-check_space : goal.returns-in_err-check_space
returns-in_err-check_space c =
    let m = c.args.mesh.now in
    let triangles = ap (map named) c.as_chunks.ensures.front ∙ named_chunks c.indices-source.result.now ∙ ap triples c.indices-source.ensures in
    let e = runs_declined (finished_state m) _ _ _ triangles _ _ (ap length c.indices-source.ensures) (proper m) c.in_ok-count.ensures _ c.in_err-check_space.ensures in
    search rules

pub write_runs-requires-clause-narrow : goal.write_runs-requires-clause-narrow
write_runs-requires-clause-narrow c = (run_count_lem _ _ c.in_ok-count.ensures).0

pub returns : goal.returns
returns c =
    let m = c.args.mesh.now in
    let triangles = ap (map named) c.as_chunks.ensures.front ∙ named_chunks c.indices-source.result.now ∙ ap triples c.indices-source.ensures in
    runs_placed (finished_state m) _ _ _ triangles _ _ (ap length c.indices-source.ensures) (proper m) c.in_ok-count.ensures _ _ _ c.in_ok-check_space.ensures c.write_runs.ensures.lowers
    (c.write_runs.ensures.lists ∙ ap (λ t. on_front (parts_from 0 t (cut (map named c.as_chunks.result.0.now))) c.args.parts.now) c.texture_id.ensures)
