use Rattle.std.proofs.Common.{◌∙◌}
use Rattle.drawing_file.specs.Runs.{run_state, first_figure, told_at}
use Rattle.drawing_file.proofs.Leavings as leavings
use Rattle.drawing_file.proofs.Lists as lists
use Rattle.drawing_file.proofs.Turns.{whole}
use Rattle.drawing_file.proofs.runner.Runner.next_figure.Goals as goal

pub returns : goal.returns
returns c =
    let s = run_state c.args.self.now in
    let t = run_state c.run_on.new.self in
    let short = c.if-self-gt-MAX_BYTES.false in
    record {
      run = c.run_on.ensures ∙ whole first_figure s short;
      list = lists.heads s t (told_at c.run_on.result) short c.run_on.ensures;
      leaves = leavings.leaves s t (told_at c.run_on.result) c.run_on.ensures;
    }
