use Rattle.std.proofs.Common.{◌∙◌}
use Rattle.path.specs.Held.{held}
use Rattle.tessellator.proofs.Shapes.{same_sizing}
use Rattle.tessellator.proofs.fill.textured.size_of_fill_with_uv.Goals as goal

pub returns : goal.returns
returns g c = c.size_of_fill.ensures ∙ same_sizing (g.U.TextureRule.lies c.args.uv_from_pos.now) c.args.feathering c.args.color (held c.args.path.now).used
