use Rattle.std.proofs.Common.{◌≤◌, length, sym, ap, ◌∙◌, subst, arith}
use Rattle.path.specs.Held.{Held, held}
use Rattle.path.specs.declared.point.PathPoint.{PathPoint}
use Rattle.tessellator.specs.Kinds.{fewest, vertex_count, index_count}
use Rattle.tessellator.specs.State.{mesh_state}
use Rattle.tessellator.specs.Strokes.{kind_of}
use Rattle.tessellator.specs.declared.kind.Kind.{Kind}
use Rattle.tessellator.specs.declared.stroke.Style.TheVariants.{Hard}
use Rattle.tessellator.proofs.Hardly.{inner_fits, hard_counted, hard_drawn}
use Rattle.tessellator.proofs.Stroked.{kind_enough}
use Rattle.tessellator.proofs.stroke.outline.Outline.draw_hard.Goals as goal

pub add_inner-requires : goal.add_inner-requires
add_inner-requires g c =
    let p = held c.args.path.now in
    let inner = c.as_slice-2.ensures ∙ ap (λ (h : Held PathPoint). h.used) c.set_in.ensures in
    inner_fits (g.B.Brush.paints c.args.brush.now) c.args.self.feathering c.args.self.width c.args.self.course p.used _ _ _ _ (mesh_state c.args.out.now) _
    c.as_slice.ensures c.hard_rows.ensures (ap (λ f. f.color) c.fill.ensures) inner c.add_rows.ensures c.requires.fits

pub add_triangles-requires : goal.add_triangles-requires
add_triangles-requires g c =
    let p = held c.args.path.now in
    let n = length c.as_slice-n.result.now in
    let inner = c.as_slice-2.ensures ∙ ap (λ (h : Held PathPoint). h.used) c.set_in.ensures in
    let drawn = hard_counted (g.B.Brush.paints c.args.brush.now) c.args.self.feathering c.args.self.width c.args.self.course p.used _ _ _ _ (mesh_state c.args.out.now) _
    c.as_slice.ensures c.hard_rows.ensures (ap (λ f. f.color) c.fill.ensures) inner c.add_rows.ensures c.requires.fits _ c.add_inner.ensures in
    let long = ap length c.as_slice-n.ensures in
    let kind = c.kind.ensures in
    let vertices = ap (λ (k : Kind). vertex_count k n) kind ∙ ap (λ j. vertex_count (kind_of Hard c.args.self.course j) j) long in
    let indices = ap (λ (k : Kind). index_count k n) kind ∙ ap (λ j. index_count (kind_of Hard c.args.self.course j) j) long in record { enough = subst (λ (k : Kind). fewest k ≤ n) (sym kind) (kind_enough Hard c.args.self.course n (omega (arith, c.requires.enough))); vertices = omega (arith, c.next_vertex-base.ensures, drawn.0); space = omega (arith, c.requires.fits.indices, drawn.1) }

pub returns : goal.returns
returns g c =
    let p = held c.args.path.now in
    let inner = c.as_slice-2.ensures ∙ ap (λ (h : Held PathPoint). h.used) c.set_in.ensures in
    record {
      path = c.set_in.ensures;
      mesh = hard_drawn (g.B.Brush.paints c.args.brush.now) c.args.self.feathering c.args.self.width c.args.self.course p.used _ _ _ _ (mesh_state c.args.out.now) _
          c.as_slice.ensures c.hard_rows.ensures (ap (λ f. f.color) c.fill.ensures) inner c.add_rows.ensures c.requires.fits _ c.add_inner.ensures
          _ _ (length c.as_slice-n.result.now) _ c.next_vertex-base.ensures (ap length c.as_slice-n.ensures) c.kind.ensures c.add_triangles.ensures;
    }
