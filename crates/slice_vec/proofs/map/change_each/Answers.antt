use Rattle.std.proofs.Common.{set, ap, ◌∙◌, arith}
use Rattle.std.proofs.lemmas.List.{get_or_default}
use Rattle.std.proofs.lemmas.List.Edits.{map_over_more}
use Rattle.slice_vec.proofs.map.change_each.Goals as goal

pub loop-item-preserved : goal.loop-item-preserved
loop-item-preserved g c =
    let here = c.loop-item in
    ap (set here.items here.item-index) c.image.ensures
    ∙ map_over_more (g.M.Map.image c.args.by.now) c.args.items.now here.items here.item-index _ c.loop-item-test.true here.invariant
    (get_or_default here.items here.item-index _ _ (omega (arith, c.loop-item-test.true)))
