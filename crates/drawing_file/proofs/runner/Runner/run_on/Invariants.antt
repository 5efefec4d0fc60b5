use Rattle.std.proofs.Common.{◌≡◌, length}
use Rattle.drawing_file.specs.Runs.{run_state, along, first_figure}
use Rattle.drawing_file.proofs.runner.Runner.run_on.Given as goal

abbrev pub invariant-loop-at : goal.invariant-loop-at
invariant-loop-at l = along first_figure (run_state l.self) ≡ along first_figure (run_state l.initial.self)

abbrev pub decreases-loop-at : goal.decreases-loop-at
decreases-loop-at l = length l.self.rest.now
