use Rattle.std.proofs.Common.{map, length, sym, ◌∙◌, ap, arith, length-append, length-drop, length-take}
use Rattle.std.proofs.lemmas.List.{length-map}
use Rattle.slice_vec.specs.Held.{held}
use Rattle.slice_vec.proofs.Writing.{end_fits, items_written, all_pushed, none_pushed}
use Rattle.slice_vec.proofs.SliceVec.extend_by.Goals as goal

pub overflow_add-end : goal.overflow_add-end
overflow_add-end g c = omega (arith, g.MAX.fits, end_fits c.args.self.now (length c.args.sources.now) (omega arith))

pub slice_bounds-write_each-end : goal.slice_bounds-write_each-end
slice_bounds-write_each-end g c = let fits = end_fits c.args.self.now (length c.args.sources.now) (omega arith) in omega (arith, fits.0)

pub invariant_of-self : goal.invariant_of-self
invariant_of-self g c =
    let fits = end_fits c.args.self.now (length c.args.sources.now) (omega arith) in
    let long = ap length c.write_each.ensures ∙ length-map c.args.sources.now (g.M.Map.image c.args.by.now) in
    record { counted = simp (length-append, length-take, length-drop) (omega (arith, c.args.self.now.counted)); within = omega arith }

pub returns-then-sources-space : goal.returns-then-sources-space
returns-then-sources-space g c =
    let s = c.args.self.now in
    let sources = c.args.sources.now in
    let xs = map (g.M.Map.image c.args.by.now) sources in
    let many = length-map sources (g.M.Map.image c.args.by.now) in
    let fits = end_fits s (length sources) (omega arith) in
    items_written s.len s.items.now (length sources) xs _ (sym many) c.write_each.ensures fits.0 ∙ all_pushed g.row.MAX (held s) xs (omega arith)

pub returns-else-sources-space : goal.returns-else-sources-space
returns-else-sources-space g c =
    let many = length-map c.args.sources.now (g.M.Map.image c.args.by.now) in
    none_pushed g.row.MAX (held c.args.self.now) (map (g.M.Map.image c.args.by.now) c.args.sources.now) (omega arith)
