use Rattle.std.proofs.Common.{◌*◌, ◌≤◌, length, sym, ap, ◌∙◌, subst, arith}
use Rattle.path.specs.Held.{Held, held}
use Rattle.path.specs.declared.point.PathPoint.{PathPoint}
use Rattle.tessellator.specs.Kinds.{fewest, vertex_count}
use Rattle.tessellator.specs.Strokes.{fill_of, kind_of}
use Rattle.tessellator.specs.declared.kind.Kind.{Kind}
use Rattle.tessellator.specs.declared.stroke.Style.TheVariants.{Thin}
use Rattle.tessellator.proofs.Shapes.{fits_as}
use Rattle.tessellator.proofs.Stroked.{length-swollen, kind_enough, thin_count}
use Rattle.tessellator.proofs.stroke.outline.Outline.draw_thin.Goals as goal

pub draw_rows-requires : goal.draw_rows-requires
draw_rows-requires g c =
    let p = held c.args.path.now in
    let n = length (held c.swell.new.path).used in
    let long = ap (λ (h : Held PathPoint). length h.used) c.swell.ensures ∙ length-swollen c.args.self.feathering c.args.self.width (fill_of c.args.self.course) p.used in
    let kind = c.kind-kind.ensures ∙ ap (kind_of Thin c.args.self.course) (ap length c.as_slice.ensures) in
    let rows = ap length c.thin_rows.ensures in
    record {
      enough = subst (λ (k : Kind). fewest k ≤ n) (sym kind) (kind_enough Thin c.args.self.course n (omega (arith, c.requires.enough)));
      all_rows = ap (λ k. n * k) rows ∙ omega arith ∙ sym (thin_count c.args.self.course n) ∙ ap (λ (k : Kind). vertex_count k n) (sym kind);
      fits = fits_as (kind_of Thin c.args.self.course (length p.used)) _ _ _ _ (ap (kind_of Thin c.args.self.course) (sym long) ∙ sym kind) (sym long) c.requires.fits;
    }
