use Rattle.std.proofs.Common.{cond, ltb, map, length, sym, ap, ◌∙◌, le-ltb}
use Rattle.std.proofs.lemmas.List.{length-map}
use Rattle.path.specs.declared.fault.PathFault.TheVariants.{OutOfLimits, TooFewPoints, NoSpace}
use Rattle.drawing_file.specs.Values.{first_place}
use Rattle.drawing_file.proofs.Placing.{within_all}
use Rattle.drawing_file.proofs.line.crowded.Goals as goal

pub returns-then-not-all_within : goal.returns-then-not-all_within
returns-then-not-all_within c =
    let ps = c.args.places.now in
    ap (λ v. cond v (cond (ltb (length (map first_place ps)) 2) TooFewPoints NoSpace) OutOfLimits) (c.if-not-all_within.ensures ∙ within_all ps)

pub returns-else-places-lt2 : goal.returns-else-places-lt2
returns-else-places-lt2 c =
    let ps = c.args.places.now in
    let long = ap (λ n. ltb n 2) (length-map ps first_place) ∙ le-ltb (length ps) 2 c.if-places-lt2.false in
    let within = c.if-not-all_within.ensures ∙ within_all ps in
    (λ i. cond (within i) (cond (sym long i) TooFewPoints NoSpace) OutOfLimits)
