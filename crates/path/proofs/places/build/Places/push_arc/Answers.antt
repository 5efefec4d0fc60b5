use Rattle.std.proofs.Common.{[], ◌∷◌, length, sym, ap, ◌∙◌, arith}
use Rattle.std.proofs.lemmas.Bool.{not-true, not-false}
use Rattle.slice_vec.specs.Held.{extended, pushed}
use Rattle.path.specs.Arcs.{arc_places}
use Rattle.path.specs.Held.{held}
use Rattle.path.proofs.Arcs.{no_places, one_place, cut_fits, cut_is}
use Rattle.path.proofs.Growing.{extended_none, put}
use Rattle.path.proofs.places.build.Places.push_arc.Goals as goal

pub returns-then-not-arc : goal.returns-then-not-arc
returns-then-not-arc c =
    let one = one_place c.args.arc c.if-circle.true (not-true _ c.if-not-arc.true) in
    put _ _ (_ ∷ []) (omega (arith, c.requires, ap length one)) c.push.ensures ∙ ap (extended (held c.args.self.now)) (sym one)

pub returns-else-not-arc : goal.returns-else-not-arc
returns-else-not-arc c = sym (ap (extended (held c.args.self.now)) (no_places c.args.arc c.if-circle.true (not-false _ c.if-not-arc.false)) ∙ extended_none (held c.args.self.now))

pub slice_bounds-extend_by-end : goal.slice_bounds-extend_by-end
slice_bounds-extend_by-end c = cut_fits c.args.arc _ _ _ c.number.ensures.number c.circle_for-directions.ensures.table c.count.ensures.count c.if-circle.false

pub returns : goal.returns
returns c =
    put _ _ (arc_places c.args.arc) c.requires
    (c.extend_by.ensures
    ∙ ap (pushed 1048576 (held c.args.self.now)) (cut_is c.args.arc _ _ _ c.number.ensures.number c.circle_for-directions.ensures.table c.count.ensures.count c.if-circle.false))
