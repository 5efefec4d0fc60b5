use Rattle.std.proofs.Common.{◌≡◌, rules}
use Rattle.path.specs.Arcs.{clamped_radii, square, joined, rounded, rounded_count}
use Rattle.path.specs.Builders.{rounded_rectangle}
use Rattle.path.specs.Laws.{Numbering}
use Rattle.path.proofs.Arcs.{rounded_length}
use Rattle.path.proofs.Extending.{rebuilds}
use Rattle.path.proofs.places.build.Places.rounded_rectangle.Goals as goal

pub returns-then-is_zero : goal.returns-then-is_zero
returns-then-is_zero c =
    let rect = c.args.rect in
    let k = clamped_radii rect c.args.radii in
    let all : rounded rect k ≡ square rect = search rules in
    let r = rebuilds (Numbering (rounded_count rect k)) (rounded_rectangle rect c.args.radii) (rounded rect k) _ _ _ (search rules) (rounded_length rect k) c.replace_by_square.ensures all in
    record { outcome = r.outcome; replaces = r.replaces }

pub returns-else-is_zero : goal.returns-else-is_zero
returns-else-is_zero c =
    let rect = c.args.rect in
    let k = clamped_radii rect c.args.radii in
    let all : rounded rect k ≡ joined c.corners_of.result = search rules in
    let r = rebuilds (Numbering (rounded_count rect k)) (rounded_rectangle rect c.args.radii) (rounded rect k) _ _ _ (search rules) (rounded_length rect k) c.replace_by_corners.ensures all in
    record { outcome = r.outcome; replaces = r.replaces }
