use Rattle.std.proofs.Common.{length, sym, ◌∙◌, arith}
use Rattle.std.proofs.lemmas.Bool.{eqb-false}
use Rattle.drawing_file.specs.Runs.{run_state, first_figure}
use Rattle.drawing_file.proofs.Turns.{fewer, quiet, at_figure}
use Rattle.drawing_file.proofs.runner.Runner.run_on.Goals as goal

pub loop-at-smaller : goal.loop-at-smaller
loop-at-smaller c = fewer (run_state c.loop-at.self) (run_state c.run_first.new.self) _ c.in-Ok-None.ensures

pub loop-at-preserved : goal.loop-at-preserved
loop-at-preserved c =
    let left = eqb-false (length c.loop-at.self.rest.now) 0 (sym c.loop-at-test.ensures) in
    quiet first_figure (run_state c.loop-at.self) (run_state c.run_first.new.self) _ (omega arith) c.in-Ok-None.field-0-is c.in-Ok-None.ensures ∙ c.loop-at.invariant

pub returns-in-Ok-Some : goal.returns-in-Ok-Some
returns-in-Ok-Some c =
    let left = eqb-false (length c.loop-at.self.rest.now) 0 (sym c.loop-at-test.ensures) in
    at_figure first_figure (run_state c.loop-at.self) (run_state c.run_first.new.self) _ _ (omega arith) c.in-Ok-Some.field-0-is c.in-Ok-Some.ensures ∙ c.loop-at.invariant
