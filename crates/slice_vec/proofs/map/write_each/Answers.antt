use Rattle.std.proofs.Common.{ap, ◌∙◌}
use Rattle.slice_vec.proofs.Writing.{next_written}
use Rattle.slice_vec.proofs.map.write_each.Goals as goal

pub loop-i-preserved : goal.loop-i-preserved
loop-i-preserved g c =
    let here = c.loop-i in
    next_written (g.M.Map.image c.args.by.now) c.args.sources.now c.args.items.now here.items here.i _ _ c.loop-i-test.true c.requires here.invariant
    (c.image.ensures ∙ ap (g.M.Map.image c.args.by.now) c.index-sources-i.is)
