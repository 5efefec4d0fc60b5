use Rattle.std.proofs.Common.{◌∙◌}
use Rattle.cutting.proofs.Chunks.{flat_named}
use Rattle.cutting.proofs.run.indices_of.Goals as goal

pub returns : goal.returns
returns c = c.as_flattened.ensures.value ∙ flat_named c.args.triangles.now c.told-triangles
