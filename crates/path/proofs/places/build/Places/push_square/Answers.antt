use Rattle.std.proofs.Common.{[]}
use Rattle.path.specs.Arcs.{square}
use Rattle.path.proofs.Growing.{begins, goes_on_by, ends}
use Rattle.path.proofs.places.build.Places.push_square.Goals as goal

pub returns : goal.returns
returns c =
    let first = goes_on_by _ _ _ (begins _ (square c.args.rect) c.requires) c.push.ensures in
    let second = goes_on_by _ _ _ first c.push-2.ensures in
    let third = goes_on_by _ _ _ second c.push-3.ensures in
    ends (goes_on_by _ [] _ third c.push-4.ensures)
