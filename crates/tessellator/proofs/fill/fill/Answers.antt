use Rattle.std.proofs.Common.{sym, ◌∙◌}
use Rattle.std.proofs.lemmas.Result.{err_from_is_err_and}
use Rattle.path.specs.Held.{held}
use Rattle.tessellator.specs.Brushes.{plain}
use Rattle.tessellator.specs.Fills.{fill_allowed, fill_figure}
use Rattle.tessellator.specs.State.{mesh_state}
use Rattle.tessellator.proofs.Drawn.{refusal_kept, space_fits, drawn_kept}
use Rattle.tessellator.proofs.Shapes.{fill_shape, shape_fits}
use Rattle.tessellator.proofs.fill.fill.Goals as goal

pub returns-in_err-reserve : goal.returns-in_err-reserve
returns-in_err-reserve c =
    let p = held c.args.path.now in
    let e = err_from_is_err_and c.from_residual-in_err-reserve.result c.from_residual-in_err-reserve.ensures.1 in
    let k = refusal_kept (fill_allowed c.args.feathering p.used) (fill_figure c.args.feathering c.args.color p.used) p (mesh_state c.args.out.now)
    (fill_shape plain c.args.feathering c.args.color p.used).points c.in_ok-size.size c.in_ok-size.ensures _ c.in_err-reserve.ensures in
    rw (e.1, e.2) (record { outcome = k.outcome; grows = k.grows; sized = k.sized })

pub draw-requires : goal.draw-requires
draw-requires c =
    let p = held c.args.path.now in
    let m = mesh_state c.args.out.now in
    let shape = fill_shape plain c.args.feathering c.args.color p.used in
    shape_fits shape m (space_fits (fill_allowed c.args.feathering p.used) (fill_figure c.args.feathering c.args.color p.used) p m shape.points c.in_ok-size.size c.in_ok-size.ensures (sym c.in_ok-reserve.was ∙ c.reserve.ensures))

pub returns : goal.returns
returns c =
    let p = held c.args.path.now in
    let k = drawn_kept (fill_allowed c.args.feathering p.used) (fill_figure c.args.feathering c.args.color p.used) p (mesh_state c.args.out.now)
    (fill_shape plain c.args.feathering c.args.color p.used).points c.in_ok-size.size c.in_ok-size.ensures
    (held c.draw.new.path) (mesh_state c.draw.new.out) (sym c.in_ok-reserve.was ∙ c.reserve.ensures) c.draw.ensures in
    record { outcome = k.outcome; grows = k.grows; sized = k.sized }
