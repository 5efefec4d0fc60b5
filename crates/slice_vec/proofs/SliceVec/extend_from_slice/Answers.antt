use Rattle.std.proofs.Common.{ap, ◌∙◌}
use Rattle.std.proofs.lemmas.List.{map-id}
use Rattle.slice_vec.specs.Held.{held, pushed}
use Rattle.slice_vec.proofs.SliceVec.extend_from_slice.Goals as goal

pub returns : goal.returns
returns g c = c.extend_by.ensures ∙ ap (pushed g.row.MAX (held c.args.self.now)) (map-id c.args.items.now)
