use Rattle.std.proofs.Common.{◌*◌, length, sym, ap, ◌∙◌, arith}
use Rattle.emath.specs.Plane as plane
use Rattle.tessellator.specs.Brushes.{plain}
use Rattle.tessellator.specs.Fills.{hard_fill_rows}
use Rattle.tessellator.specs.Rows.{row_vertices}
use Rattle.tessellator.specs.State.{mesh_state, with_vertices}
use Rattle.tessellator.proofs.Growth.{vertices_none}
use Rattle.tessellator.proofs.Joining.{length-rows}
use Rattle.tessellator.proofs.Shapes.{unfilled, inner_fill}
use Rattle.tessellator.proofs.fill.Filling.add_inner.Goals as goal

pub add_rows-requires : goal.add_rows-requires
add_rows-requires c =
    let points = c.args.points.now in
    let all = ap (λ f. length f.vertices) (inner_fill c.args.self.color points (sym c.is_empty.ensures ∙ c.if-not-is_empty.true)) in
    let long = length-rows plain (hard_fill_rows c.args.self.color) points in
    let rows = ap (λ l. length points * length l) c.hard_rows.ensures in
    omega (arith, c.requires)

pub returns-then-not-is_empty : goal.returns-then-not-is_empty
returns-then-not-is_empty c =
    c.add_rows.ensures
    ∙ ap (λ rows. with_vertices (mesh_state c.args.out.now) (row_vertices plain rows c.args.points.now)) c.hard_rows.ensures
    ∙ ap (λ f. with_vertices (mesh_state c.args.out.now) f.vertices) (sym (inner_fill c.args.self.color c.args.points.now (sym c.is_empty.ensures ∙ c.if-not-is_empty.true)))

pub returns-else-not-is_empty : goal.returns-else-not-is_empty
returns-else-not-is_empty c =
    vertices_none _
    ∙ ap (λ f. with_vertices (mesh_state c.args.out.now) f.vertices) (sym (unfilled plain plane.zero c.args.self.color c.args.points.now (sym c.is_empty.ensures ∙ c.if-not-is_empty.false)))
