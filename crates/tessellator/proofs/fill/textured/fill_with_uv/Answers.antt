use Rattle.std.proofs.Common.{length, sym, ap, ◌∙◌, subst, arith}
use Rattle.std.proofs.lemmas.Result.{err_from_is_err_and}
use Rattle.path.specs.Held.{held}
use Rattle.tessellator.specs.Brushes.{textured}
use Rattle.tessellator.specs.Fills.{fill_allowed, textured_figure}
use Rattle.tessellator.specs.Outcome.{Fits}
use Rattle.tessellator.specs.State.{MeshState, mesh_state}
use Rattle.tessellator.proofs.Shapes.{fill_shape, shape_fits, same_sizing}
use Rattle.tessellator.proofs.Textured.{refused_textured, textured_fits, drawn_textured}
use Rattle.tessellator.proofs.fill.textured.fill_with_uv.Goals as goal

pub returns-in_err-reserve_under : goal.returns-in_err-reserve_under
returns-in_err-reserve_under g c =
    let e = err_from_is_err_and c.from_residual-in_err-reserve_under.result c.from_residual-in_err-reserve_under.ensures.1 in
    let p = held c.args.path.now in
    let rule = g.U.TextureRule.lies c.args.uv_from_pos.now in
    let long = ap length c.as_slice.ensures in
    rw (e.1, e.2) (refused_textured (fill_allowed c.args.feathering p.used) c.args.color c.args.texture_id (textured_figure c.args.feathering c.args.color rule p.used) p (mesh_state c.args.out.now) c.in_ok-size.size
    (c.in_ok-size.ensures ∙ same_sizing rule c.args.feathering c.args.color p.used) (sym c.is_transparent.ensures ∙ c.if-is_transparent.false) (omega (arith, c.if-as_slice-lt3.false)) _ c.in_err-reserve_under.ensures)

pub draw-requires : goal.draw-requires
draw-requires g c =
    let p = held c.args.path.now in
    let rule = g.U.TextureRule.lies c.args.uv_from_pos.now in
    let long = ap length c.as_slice.ensures in
    shape_fits (fill_shape (textured rule) c.args.feathering c.args.color p.used) _
    (subst (λ (m : MeshState). Fits (textured_figure c.args.feathering c.args.color rule p.used) m) (sym c.set_texture.ensures)
    (textured_fits (fill_allowed c.args.feathering p.used) c.args.color c.args.texture_id (textured_figure c.args.feathering c.args.color rule p.used) p (mesh_state c.args.out.now) c.in_ok-size.size
    (c.in_ok-size.ensures ∙ same_sizing rule c.args.feathering c.args.color p.used) (sym c.is_transparent.ensures ∙ c.if-is_transparent.false) (omega (arith, c.if-as_slice-lt3.false)) (sym c.in_ok-reserve_under.was ∙ c.reserve_under.ensures)))

pub returns : goal.returns
returns g c =
    let p = held c.args.path.now in
    let rule = g.U.TextureRule.lies c.args.uv_from_pos.now in
    let long = ap length c.as_slice.ensures in
    drawn_textured (fill_allowed c.args.feathering p.used) c.args.color c.args.texture_id (textured_figure c.args.feathering c.args.color rule p.used) p (mesh_state c.args.out.now) c.in_ok-size.size
    (c.in_ok-size.ensures ∙ same_sizing rule c.args.feathering c.args.color p.used) (sym c.is_transparent.ensures ∙ c.if-is_transparent.false) (omega (arith, c.if-as_slice-lt3.false))
    _ _ _ c.set_texture.ensures (sym c.in_ok-reserve_under.was ∙ c.reserve_under.ensures) c.draw.ensures
