use Rattle.std.proofs.Common.{◌≡◌, ◌+◌, [], map, sym, ap, ◌∙◌, arith, ◌<◌, length, rules}
use Rattle.std.proofs.lemmas.List.{get_or-map, length-map}
use Rattle.tessellator.specs.Triangles.{tri, named}
use Rattle.cutting.specs.Runs.{runs_left}
use Rattle.cutting.specs.Spans.{span_of, both}
use Rattle.cutting.proofs.Counting.{triangle}
use Rattle.cutting.proofs.Running.{Running, Over, run_begins, run_takes, runs_out, run_full, next_run}
use Rattle.cutting.proofs.run.RunsIterator.next.Goals as goal
use Rattle.cutting.proofs.run.RunsIterator.next.Goals.{else-run-test, then-run-test+then-not-fits}

pub run-init : goal.run-init
run-init c =
    let first = ap (λ l. triangle (map named l) 0) c.in_ok-first.ensures.cases.0 in
    (omega arith, rw first (run_begins _ _ _ c.of_triangle-span.ensures))

pub run-preserved : goal.run-preserved
run-preserved c =
    let others = c.in_ok-first.others.now in
    let i = c.run.triangle-index in
    let next = get_or-map named others i [] (tri 0 0 0) (omega arith) in (
      omega arith,
      run_takes c.run.invariant.1 _ (omega (arith, length-map others named))
          (c.joined-wider.ensures ∙ ap (both c.run.span) (c.of_triangle.ensures ∙ ap span_of (sym next))) (sym c.if-not-fits.ensures),
    )

pub returns-clause-steps : goal.returns-clause-steps
returns-clause-steps c =
    let others = c.in_ok-first.others.now in
    let i = c.run.triangle-index in
    let s = c.run.span in
    let cases = c.in_ok-first.ensures.cases.0 in
    let first = ap (λ l. triangle (map named l) 0) cases in
    let r : Running (named c.in_ok-first.first.now) (map named others) i s = rw first at c.run.invariant.1 in
    let over : Over r =
    elim c.run-test.branch [
      | else-run-test w ↦ runs_out r (omega (arith, length-map others named))
      | then-run-test+then-not-fits w ↦
          let next = get_or-map named others i [] (tri 0 0 0) (omega arith) in
          run_full r _ (omega (arith, length-map others named))
          (w.joined-wider.ensures ∙ ap (both s) (w.of_triangle.ensures ∙ ap span_of (sym next))) (sym w.if-not-fits.ensures)
    ] in
    let end : c.run.end ≡ i + 1 = c.run.invariant.0 in
    next_run _ _ _ _ _ _ _ cases r over (rw end at c.split_at.ensures.front) (rw end at c.split_at.ensures.back)

pub returns-clause-goes : goal.returns-clause-goes
returns-clause-goes c =
    let fewer : length (runs_left (record { 0 = c.split_at.result.1 })) < length (runs_left c.args.self.now) = omega (arith, ap length (returns-clause-steps c)) in
    search rules
