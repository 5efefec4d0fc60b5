use Rattle.std.proofs.Common.{◌≤◌, length, sym, ap, ◌∙◌, subst, arith}
use Rattle.tessellator.specs.Kinds.{fewest, vertex_count, index_count}
use Rattle.tessellator.specs.Strokes.{kind_of}
use Rattle.tessellator.specs.declared.kind.Kind.{Kind}
use Rattle.tessellator.specs.declared.stroke.Style.TheVariants.{Thick}
use Rattle.tessellator.proofs.Stroked.{kind_enough, thick_count}
use Rattle.tessellator.proofs.Thick.{thick_counted}
use Rattle.tessellator.proofs.stroke.outline.Outline.draw_thick.Goals as goal

pub add_triangles-requires : goal.add_triangles-requires
add_triangles-requires g c =
    let course = c.args.self.course in
    let n = length c.as_slice-points.result.now in
    let all = ap length c.as_slice-points.ensures in
    let many = c.requires.enough in
    let kind = c.kind-kind.ensures in
    let drawn = thick_counted c.args.self.feathering c.args.self.width (g.B.Brush.paints c.args.brush.now) c.as_slice-points.result.now _ _ (omega arith) c.add_thick_rows.ensures in
    let vertices = ap (λ (k : Kind). vertex_count k n) kind ∙ thick_count course n in
    let indices = ap (λ (k : Kind). index_count k n) kind ∙ ap (λ j. index_count (kind_of Thick course j) j) all in
    record {
      enough = subst (λ (k : Kind). fewest k ≤ n) (sym kind) (kind_enough Thick course n (omega arith));
      vertices = omega (arith, c.next_vertex-base.ensures, drawn.0);
      space = omega (arith, c.requires.fits.indices, drawn.1);
    }
