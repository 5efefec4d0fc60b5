use Rattle.std.proofs.Common.{arith}
use Rattle.std.proofs.lemmas.List.{drop_more, drop_all}
use Rattle.cutting.proofs.Writing.{one_written, ends}
use Rattle.cutting.proofs.cut.lower.Goals as goal

pub loop-i-preserved : goal.loop-i-preserved
loop-i-preserved c =
    let here = c.loop-i in
    one_written _ _ _ _ _ _ (omega arith) (rw (drop_more c.args.source.now here.i 0 c.loop-i-test.true) at here.invariant)

pub returns : goal.returns
returns c = let here = c.loop-i in ends _ _ here.i _ (rw (drop_all here.i c.args.source.now c.loop-i-test.false) at here.invariant)
