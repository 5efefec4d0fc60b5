use Rattle.std.proofs.Common.{map, length, sym, ap, ◌∙◌, arith}
use Rattle.std.proofs.lemmas.List.{length-map}
use Rattle.tessellator.specs.Triangles.{named}
use Rattle.cutting.specs.Cutting.{cut}
use Rattle.cutting.specs.Spans.{narrow}
use Rattle.cutting.proofs.Counting.{few_runs}
use Rattle.cutting.proofs.Parting.{first_of_runs}
use Rattle.cutting.proofs.Tallies.{run_passes, run_refused}
use Rattle.cutting.proofs.cut.count_runs.Goals as goal

pub returns-then-not-fits : goal.returns-then-not-fits
returns-then-not-fits c =
    let after = map named c.next.new.self.0.now in
    let (runs, s) = first_of_runs _ (cut after) _ _ c.in-Some.ensures.steps in
    run_refused _ _ _ after _ _ c.loop-run.invariant runs (ap narrow (sym s) ∙ sym c.if-not-fits.ensures)

pub overflow_add-count : goal.overflow_add-count
overflow_add-count c =
    let all = map named c.args.triangles.now in
    let (runs, s) = first_of_runs _ (cut (map named c.next.new.self.0.now)) _ _ c.in-Some.ensures.steps in
    omega (arith, c.loop-run.invariant.runs, ap length runs, few_runs all, length-map c.args.triangles.now named, c.told-triangles)

pub loop-run-preserved : goal.loop-run-preserved
loop-run-preserved c =
    let after = map named c.next.new.self.0.now in
    let (runs, s) = first_of_runs _ (cut after) _ _ c.in-Some.ensures.steps in
    run_passes _ _ _ after _ _ c.loop-run.invariant runs _ (sym (length-map c.in-Some.run'.triangles.now named)) (ap narrow (sym s) ∙ sym c.if-not-fits.ensures)
