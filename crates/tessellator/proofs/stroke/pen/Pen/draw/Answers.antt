use Rattle.std.proofs.Common.{sym, ◌∙◌}
use Rattle.std.proofs.lemmas.Result.{err_from_is_err_and}
use Rattle.path.specs.Held.{held}
use Rattle.tessellator.specs.State.{mesh_state}
use Rattle.tessellator.specs.Strokes.{meaning, stroke_figure, stroke_allowed}
use Rattle.tessellator.proofs.Drawn.{limits_kept, refusal_kept, space_fits, drawn_kept}
use Rattle.tessellator.proofs.Shapes.{shape_fits}
use Rattle.tessellator.proofs.Stroked.{stroke_shape}
use Rattle.tessellator.proofs.stroke.pen.Pen.draw.Goals as goal

pub returns-in_err-size : goal.returns-in_err-size
returns-in_err-size g c =
    let p = held c.args.path.now in
    let pen = meaning g.C.ColorRule.colour g.C.ColorRule.plain c.args.self.now in
    let e = err_from_is_err_and c.from_residual.result c.from_residual.ensures.1 in
    let k = limits_kept (stroke_allowed pen p.used) (stroke_figure pen p.used) p (mesh_state c.args.out.now) (stroke_shape pen p.used).points _ c.in_err-size.ensures in
    rw (e.1, e.2) (record { outcome = k.outcome; grows = k.grows; sized = k.sized })

pub returns-in_err-reserve : goal.returns-in_err-reserve
returns-in_err-reserve g c =
    let e = err_from_is_err_and c.from_residual-in_err-reserve.result c.from_residual-in_err-reserve.ensures.1 in
    let p = held c.args.path.now in
    let pen = meaning g.C.ColorRule.colour g.C.ColorRule.plain c.args.self.now in
    let k = refusal_kept (stroke_allowed pen p.used) (stroke_figure pen p.used) p (mesh_state c.args.out.now) (stroke_shape pen p.used).points c.in_ok-size.size c.in_ok-size.ensures _ c.in_err-reserve.ensures in
    rw (e.1, e.2) (record { outcome = k.outcome; grows = k.grows; sized = k.sized })

pub draw_all-requires : goal.draw_all-requires
draw_all-requires g c =
    let p = held c.args.path.now in
    let m = mesh_state c.args.out.now in
    let pen = meaning g.C.ColorRule.colour g.C.ColorRule.plain c.args.self.now in
    let shape = stroke_shape pen p.used in
    shape_fits shape m (space_fits (stroke_allowed pen p.used) (stroke_figure pen p.used) p m shape.points c.in_ok-size.size c.in_ok-size.ensures (sym c.in_ok-reserve.was ∙ c.reserve.ensures))

pub returns : goal.returns
returns g c =
    let p = held c.args.path.now in
    let pen = meaning g.C.ColorRule.colour g.C.ColorRule.plain c.args.self.now in
    let k = drawn_kept (stroke_allowed pen p.used) (stroke_figure pen p.used) p (mesh_state c.args.out.now) (stroke_shape pen p.used).points c.in_ok-size.size c.in_ok-size.ensures
    (held c.draw_all.new.path) (mesh_state c.draw_all.new.out) (sym c.in_ok-reserve.was ∙ c.reserve.ensures) c.draw_all.ensures in
    record { outcome = k.outcome; grows = k.grows; sized = k.sized }
