use Rattle.std.proofs.Common.{◌+◌, length, drop, refl, arith}
use lib.Ieee.{nan}
use Rattle.std.proofs.lemmas.List.{at_drop_more, at_drop_all}
use Rattle.path.specs.Lines.{open_corners}
use Rattle.path.proofs.Corners.{corner_counts, turn_length}
use Rattle.path.proofs.line.open_count.Goals as goal

pub overflow_add-count : goal.overflow_add-count
overflow_add-count c = omega (arith, (corner_counts c.between-turn.result.joint).1, c.corner_count-count.ensures)

pub loop-next-init : goal.loop-next-init
loop-next-init c = (refl, omega arith)

pub loop-next-preserved : goal.loop-next-preserved
loop-next-preserved c =
    let here = c.loop-next in
    let more = at_drop_more (λ l. length (open_corners here.normal here.normal here.at l)) c.args.rest.now here.next-index (record { x = nan; y = nan }) c.loop-next-test.true in
    let turn = turn_length here.normal here.normal here.at _ (drop (here.next-index + 1) c.args.rest.now) _ _ c.edge_normal.ensures c.between-turn.ensures in (
      omega (arith, here.invariant.0, more, turn, c.corner_count-count.ensures),
      omega (arith, (corner_counts c.between-turn.result.joint).1, c.corner_count-count.ensures),
    )

pub returns : goal.returns
returns c =
    let end = at_drop_all (λ l. length (open_corners c.loop-next.normal c.loop-next.normal c.loop-next.at l)) _ _ c.loop-next-test.false in
    rw (← c.edge_normal-normal.ensures) (omega (arith, c.loop-next.invariant.0, end))
