use Rattle.std.proofs.Common.{arith}
use Rattle.drawing_file.specs.Format.{item}
use Rattle.drawing_file.specs.Runs.{run_state}
use Rattle.drawing_file.proofs.Turns.{passes}
use Rattle.drawing_file.proofs.runner.Runner.run_first.Goals as goal

-- a record that was run leaves less to read
pub invariant_of-self-clause-counted : goal.invariant_of-self-clause-counted
invariant_of-self-clause-counted c =
    let reading = c.in_ok-reading.reading in
    omega (arith, passes (run_state c.args.self.now) (run_state c.step.new.self) (item reading.record) reading.rest.now _ c.in_ok-reading.ensures.read c.in_ok-drawn.ensures)

pub invariant_of-self-2-clause-counted : goal.invariant_of-self-2-clause-counted
invariant_of-self-2-clause-counted c =
    let reading = c.in_ok-reading.reading in
    omega (arith, passes (run_state c.args.self.now) (run_state c.step.new.self) (item reading.record) reading.rest.now _ c.in_ok-reading.ensures.read c.in_ok-drawn.ensures)
