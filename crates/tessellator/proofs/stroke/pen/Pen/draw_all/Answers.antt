use Rattle.std.proofs.Common.{◌≡◌, length, sym, refl, ap, ◌∙◌, arith}
use Rattle.std.proofs.lemmas.Bool.{or_right}
use Rattle.path.specs.Held.{Held, held}
use Rattle.path.specs.declared.point.PathPoint.{PathPoint}
use Rattle.tessellator.specs.Fills.{fill_kind}
use Rattle.tessellator.specs.Strokes.{fill_of, meaning, stroke_kind, kind_of, style_of}
use Rattle.tessellator.specs.declared.fill.Filling.{Filling}
use Rattle.tessellator.specs.declared.stroke.outline.Outline.{Outline}
use Rattle.tessellator.proofs.Drawn.{nothing_drawn}
use Rattle.tessellator.proofs.Shapes.{fits_as}
use Rattle.tessellator.proofs.Stroked.{length-faced, length-shrunk, length-centred, stroke_few, kind_clear, kind_along}
use Rattle.tessellator.proofs.stroke.pen.Pen.draw_all.Goals as goal

pub returns-then-as_slice-lt2 : goal.returns-then-as_slice-lt2
returns-then-as_slice-lt2 g c =
    let p = held c.args.path.now in
    let long = ap length c.as_slice.ensures in
    nothing_drawn _ p.used p p _ (stroke_few (meaning g.C.ColorRule.colour g.C.ColorRule.plain c.args.self.now) p.used (omega (arith, c.if-as_slice-lt2.true))) refl

pub draw-requires-then-is_clear : goal.draw-requires-then-is_clear
draw-requires-then-is_clear g c =
    let p = held c.args.path.now in
    let s = c.args.self.now.stroke.now in
    let pen = meaning g.C.ColorRule.colour g.C.ColorRule.plain c.args.self.now in
    let n = length p.used in
    let many = ap length c.as_slice.ensures in
    let faced-is = ap (λ (h : Held PathPoint). h.used) c.face.ensures in
    let long = ap (λ (h : Held PathPoint). length h.used) c.shrink.ensures ∙ length-shrunk s.kind s.width _ ∙ ap length faced-is ∙ length-faced c.args.self.now.course s.kind p.used in
    let kind = kind_clear pen n (omega (arith, c.if-as_slice-lt2.false)) (or_right _ _ (sym c.is_clear.ensures ∙ c.if-is_clear.true)) in
    let filling : c.fill-then-is_clear.result ≡ record { feathering = c.args.self.now.feathering; color = fill_of c.args.self.now.course } =
    c.fill-then-is_clear.ensures ∙ ap (λ (o : Outline). record { feathering = o.feathering; color = fill_of o.course }) c.outline-then-is_clear.ensures in
    let kind_is = ap (λ (f : Filling). fill_kind f.feathering f.color n) (sym filling) in
    fits_as (stroke_kind pen n) _ n _ _ (kind ∙ kind_is ∙ ap (fill_kind c.fill-then-is_clear.result.feathering c.fill-then-is_clear.result.color) (sym long)) (sym long) c.requires

pub draw_along-requires : goal.draw_along-requires
draw_along-requires g c =
    let p = held c.args.path.now in
    let s = c.args.self.now.stroke.now in
    let pen = meaning g.C.ColorRule.colour g.C.ColorRule.plain c.args.self.now in
    let n = length p.used in
    let many = ap length c.as_slice.ensures in
    let faced-is = ap (λ (h : Held PathPoint). h.used) c.face.ensures in
    let long = ap (λ (h : Held PathPoint). length h.used) c.centre.ensures ∙ length-centred s.kind s.width _ ∙ ap length faced-is ∙ length-faced c.args.self.now.course s.kind p.used in
    let kind = kind_along pen n (omega (arith, c.if-as_slice-lt2.false)) c.if-self.false (sym c.is_clear.ensures ∙ c.if-is_clear.false) in
    record { enough = omega (arith, c.if-as_slice-lt2.false); fits = fits_as (stroke_kind pen n) _ n _ _ (kind ∙ ap (kind_of (style_of c.args.self.now.feathering s.width) c.args.self.now.course) (sym long)) (sym long) c.requires }
