use Rattle.std.proofs.Common.{sym, subst, rules}
use Rattle.tessellator.specs.State.{finished_state}
use Rattle.cutting.specs.Parts.{Within}
use Rattle.cutting.proofs.Finished.{proper}
use Rattle.cutting.proofs.Splitting.{few_named, whole_placed}
use Rattle.cutting.proofs.cut.split_whole.Goals as goal

pub lower-requires : goal.lower-requires
lower-requires c =
    let mesh = c.args.mesh.now in
    record { space = search rules; within = subst (Within 0) (sym c.indices-source.ensures) (few_named (finished_state mesh) (proper mesh) c.requires) }

pub returns : goal.returns
returns c =
    whole_placed _ c.indices-source.result.now _ _ _ _ _ _ c.indices-source.ensures (cc) c.in_ok-check_space.ensures c.lower.ensures
