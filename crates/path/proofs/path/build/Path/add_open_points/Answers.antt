use Rattle.std.proofs.Common.{sym, ap, ◌∙◌, arith, rules}
use lib.Ieee.{nan}
use Rattle.std.proofs.lemmas.List.{map-id}
use Rattle.emath.specs.Limits.{all_places}
use Rattle.path.specs.Builders.{open_line}
use Rattle.path.specs.Laws.{Along}
use Rattle.path.specs.Lines.{open_points}
use Rattle.path.proofs.Corners.{in_parts, open_along}
use Rattle.path.proofs.Extending.{accepts, space_for}
use Rattle.path.proofs.path.build.Path.add_open_points.Goals as goal

pub returns-clause-adds : goal.returns-clause-adds
returns-clause-adds c =
    let places = c.args.places.now in
    let same = ap all_places (map-id places) in
    let all = in_parts places (record { x = nan; y = nan }) (omega arith) in
    let fits = space_for _ _ (sym c.in_ok-reserve_open.was ∙ c.reserve_open.ensures) in
    (accepts (Along places) (open_line places) (open_points places) _ _ (search rules) (open_along places (omega arith)) (search rules) (search rules)).adds
