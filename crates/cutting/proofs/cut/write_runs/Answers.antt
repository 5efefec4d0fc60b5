use Rattle.std.proofs.Common.{◌+◌, ◌≤◌, map, length, arith, rules}
use Rattle.std.proofs.lemmas.List.{length-map}
use Rattle.cutting.specs.Cutting.{cut}
use Rattle.tessellator.specs.Triangles.{named}
use Rattle.cutting.proofs.Cuts.{cut_cuts}
use Rattle.cutting.proofs.Parting.{first_of_runs, none_left, run_named, room, lowers_on, lists_on}
use Rattle.cutting.proofs.Writing.{begins, ends}
use Rattle.cutting.proofs.cut.write_runs.Goals as goal

pub loop-part-init : goal.loop-part-init
loop-part-init c = ((cut_cuts _ c.requires.narrow).1, begins _ _, begins _ _)

pub slice_bounds-lower-end : goal.slice_bounds-lower-end
slice_bounds-lower-end c =
    let here = c.loop-part in
    let triangles = c.args.triangles.now in
    let rest = cut (map named c.next.new.self.0.now) in
    let (runs, s) = first_of_runs _ rest _ _ c.in-Some.ensures.steps in
    let fits = room _ rest _ _ _ s c.indices_of-source.ensures (map named triangles) _ _ (rw runs at here.invariant.1) in
    let within : here.first_index + length c.indices_of-source.result.now ≤ length here.indices = omega (arith, length-map triangles named) in
    search rules

pub lower-requires-clause-within : goal.lower-requires-clause-within
lower-requires-clause-within c =
    let (runs, s) = first_of_runs _ (cut (map named c.next.new.self.0.now)) _ _ c.in-Some.ensures.steps in
    let legal = (rw runs at c.loop-part.invariant.0).0 in
    rw c.indices_of-source.ensures (run_named _ _ s legal)

pub loop-part-preserved : goal.loop-part-preserved
loop-part-preserved c =
    let here = c.loop-part in
    let triangles = c.args.triangles.now in
    let rest = cut (map named c.next.new.self.0.now) in
    let (runs, s) = first_of_runs _ rest _ _ c.in-Some.ensures.steps in
    let legal = rw runs at here.invariant.0 in
    let written = rw runs at here.invariant.1 in
    let fits = room _ rest _ _ _ s c.indices_of-source.ensures (map named triangles) _ _ written in (
      legal.1,
      lowers_on _ rest _ _ _ s c.indices_of-source.ensures _ _ _ _ (omega (arith, length-map triangles named)) c.lower.ensures written,
      lists_on _ rest _ _ _ s c.indices_of-source.ensures _ _ _ _ _ _ (omega arith) legal.0.0 c.width.ensures (rw runs at here.invariant.2),
    )

pub returns-after-loop-part : goal.returns-after-loop-part
returns-after-loop-part c =
    let here = c.loop-part in
    let none = none_left _ _ _ _ _ _ _ here.invariant.2 (omega arith) in
    record { lowers = ends _ _ _ _ (rw none at here.invariant.1); lists = ends _ _ _ _ (rw none at here.invariant.2) }
