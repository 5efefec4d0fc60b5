use Rattle.std.proofs.Common.{◌*◌, length, sym, refl, ap, ◌∙◌, arith}
use Rattle.std.proofs.lemmas.Bool.{cond-true, cond-false}
use Rattle.path.specs.Held.{Held, held}
use Rattle.path.specs.declared.point.PathPoint.{PathPoint}
use Rattle.path.proofs.Turning.{length-turned}
use Rattle.tessellator.specs.Fills.{is_unfilled, fill_kind}
use Rattle.tessellator.proofs.Drawn.{nothing_drawn}
use Rattle.tessellator.proofs.Shapes.{filled_many, unfilled, fits_as}
use Rattle.tessellator.proofs.fill.Filling.draw.Goals as goal

pub returns-then-is_empty : goal.returns-then-is_empty
returns-then-is_empty g c =
    let p = held c.args.path.now in
    let none = ap (λ l. is_unfilled c.args.self.color (length l)) (sym c.as_slice.ensures) ∙ sym c.is_empty.ensures ∙ c.if-is_empty.true in
    nothing_drawn _ p.used p p _ (unfilled (g.B.Brush.paints c.args.brush.now) c.args.self.feathering c.args.self.color p.used none) refl

pub draw_rows-requires : goal.draw_rows-requires
draw_rows-requires g c =
    let p = held c.args.path.now in
    let some = ap (λ l. is_unfilled c.args.self.color (length l)) (sym c.as_slice.ensures) ∙ sym c.is_empty.ensures ∙ c.if-is_empty.false in
    let turned = held c.turn_clockwise.new.self in
    let long = ap (λ (h : Held PathPoint). length h.used) c.turn_clockwise.ensures ∙ length-turned p.used in
    let kind = cond-false _ _ _ some ∙ cond-true _ _ _ c.if-self.true in
    let many = filled_many (g.B.Brush.paints c.args.brush.now) c.args.self.feathering c.args.self.color p.used some in
    let rows = ap length c.feathered_rows.ensures in
    record {
      enough = omega arith;
      all_rows = ap (λ k. length turned.used * k) rows ∙ omega arith;
      fits = fits_as (fill_kind c.args.self.feathering c.args.self.color (length p.used)) _ _ _ _ kind (sym long) c.requires;
    }
