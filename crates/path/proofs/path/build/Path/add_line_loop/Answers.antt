use Rattle.std.proofs.Common.{sym, ap, ◌∙◌, arith, rules}
use lib.Ieee.{nan}
use Rattle.std.proofs.lemmas.List.{map-id}
use Rattle.emath.specs.Limits.{all_places}
use Rattle.path.specs.Builders.{line_loop}
use Rattle.path.specs.Laws.{At}
use Rattle.path.specs.Lines.{loop_points}
use Rattle.path.proofs.Extending.{accepts, space_for}
use Rattle.path.proofs.Loops.{in_parts, loop_at, loop_length}
use Rattle.path.proofs.path.build.Path.add_line_loop.Goals as goal

pub returns-in_err-reserve-clause-outcome : goal.returns-in_err-reserve-clause-outcome
returns-in_err-reserve-clause-outcome c =
    let same = ap all_places (map-id c.args.places.now) in
    let long = loop_length c.args.places.now in search rules

pub returns : goal.returns
returns c =
    let places = c.args.places.now in
    let same = ap all_places (map-id places) in
    let long = loop_length places in
    let all = in_parts places (record { x = nan; y = nan }) (omega arith) in
    let fits = space_for _ _ (sym c.in_ok-reserve.was ∙ c.reserve.ensures) in
    let k = accepts (At places) (line_loop places) (loop_points places) _ _ (search rules) (loop_at places) (search rules) (search rules) in
    record { outcome = k.outcome; adds = k.adds }
