use Rattle.std.proofs.Common.{length, ap, ◌∙◌, arith}
use Rattle.circles.proofs.Circles.{circle_length, quarter_short}
use Rattle.path.proofs.arc.Arc.whole_count.Goals as goal

pub returns-else-self : goal.returns-else-self
returns-else-self c =
    let long = ap length c.circle_for.ensures.table ∙ circle_length c.args.self.circle.radius in
    let short = quarter_short c.args.self.circle.radius in
    record { count = simp c.if-self.false (omega arith); some = omega arith; few = omega arith }
