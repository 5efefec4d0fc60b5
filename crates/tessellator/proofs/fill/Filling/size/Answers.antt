use Rattle.std.proofs.Common.{rules}
use Rattle.path.specs.Held.{held}
use Rattle.tessellator.specs.Brushes.{plain}
use Rattle.tessellator.proofs.Shapes.{fill_shape, shape_size}
use Rattle.tessellator.proofs.fill.Filling.size.Goals as goal

pub returns : goal.returns
returns c =
    let size = shape_size (fill_shape plain c.args.self.feathering c.args.self.color (held c.args.path.now).used) in
    search rules
