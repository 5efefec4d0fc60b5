use Rattle.std.proofs.Common.{◌≡◌, rules}
use Rattle.tessellator.specs.State.{finished_state}
use Rattle.cutting.specs.Outcome.{left, cutting}
use Rattle.cutting.proofs.Finished.{proper}
use Rattle.cutting.proofs.Promises.{promised}
use Rattle.cutting.proofs.cut.split_to_u16.Goals as goal

pub returns-then-vertices-le-MAX_SPAN : goal.returns-then-vertices-le-MAX_SPAN
returns-then-vertices-le-MAX_SPAN c =
    let mesh = c.args.mesh.now in
    let after = c.split_whole.new in
    let e : left c.split_whole.result after.indices after.parts ≡ cutting (finished_state mesh) c.args.indices.now c.args.parts.now = search rules in
    let p = promised _ _ _ _ e (proper mesh) in
    record { left = e; fewest = p.0; complete = p.1; faithful = p.2 }

pub returns-else-vertices-le-MAX_SPAN : goal.returns-else-vertices-le-MAX_SPAN
returns-else-vertices-le-MAX_SPAN c =
    let mesh = c.args.mesh.now in
    let after = c.split_runs.new in
    let e : left c.split_runs.result after.indices after.parts ≡ cutting (finished_state mesh) c.args.indices.now c.args.parts.now = search rules in
    let p = promised _ _ _ _ e (proper mesh) in
    record { left = e; fewest = p.0; complete = p.1; faithful = p.2 }
