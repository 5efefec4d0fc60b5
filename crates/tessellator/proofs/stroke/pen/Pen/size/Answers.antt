use Rattle.std.proofs.Common.{◌≤◌, length, sym, ap, ◌∙◌, subst, arith, rules}
use Rattle.path.specs.Held.{held}
use Rattle.path.proofs.Growing.{few_used}
use Rattle.tessellator.specs.Kinds.{fewest}
use Rattle.tessellator.specs.Strokes.{meaning, stroke_kind}
use Rattle.tessellator.specs.declared.kind.Kind.{Kind}
use Rattle.tessellator.proofs.Shapes.{shape_size}
use Rattle.tessellator.proofs.Stroked.{stroke_shape}
use Rattle.tessellator.proofs.stroke.pen.Pen.size.Goals as goal

pub size-requires : goal.size-requires
size-requires g c =
    let pen = meaning g.C.ColorRule.colour g.C.ColorRule.plain c.args.self.now in
    let points = (held c.args.path.now).used in
    let n = length c.as_slice-points.result.now in
    let long = ap length c.as_slice-points.ensures in
    let kind = c.kind.ensures ∙ ap (stroke_kind pen) long in
    let few = few_used c.args.path.now in
    let enough = subst (λ (k : Kind). fewest k ≤ length points) (sym kind) (stroke_shape pen points).enough in
    record { enough = omega arith; few = omega arith }

pub returns : goal.returns
returns g c =
    let pen = meaning g.C.ColorRule.colour g.C.ColorRule.plain c.args.self.now in
    let size = shape_size (stroke_shape pen (held c.args.path.now).used) in
    search rules
