use Rattle.std.proofs.Common.{[], ◌∷◌, ◌∙◌, arith, length-set}
use Rattle.slice_vec.specs.Held.{held}
use Rattle.slice_vec.proofs.Writing.{end_fits, item_written, all_pushed, none_pushed}
use Rattle.slice_vec.proofs.SliceVec.push.Goals as goal

pub bounds-self-self : goal.bounds-self-self
bounds-self-self g c = omega (arith, end_fits c.args.self.now 1 (omega arith))

pub overflow_add-self : goal.overflow_add-self
overflow_add-self g c = omega (arith, g.MAX.fits, end_fits c.args.self.now 1 (omega arith))

pub invariant_of-self : goal.invariant_of-self
invariant_of-self g c =
    let fits = end_fits c.args.self.now 1 (omega arith) in
    record { counted = simp length-set c.args.self.now.counted; within = omega arith }

pub returns-then-space-gt0 : goal.returns-then-space-gt0
returns-then-space-gt0 g c =
    let s = c.args.self.now in
    item_written s.len s.items.now c.args.item (omega (arith, end_fits s 1 (omega arith)))
    ∙ all_pushed g.row.MAX (held s) (c.args.item ∷ []) (omega arith)

pub returns-else-space-gt0 : goal.returns-else-space-gt0
returns-else-space-gt0 g c = none_pushed g.row.MAX (held c.args.self.now) (c.args.item ∷ []) (omega arith)
