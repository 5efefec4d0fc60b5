use Rattle.tessellator.specs.State.{mesh_state}
use Rattle.tessellator.proofs.Thick.{middle_fits, last_fits, thick_drawn}
use Rattle.tessellator.proofs.stroke.outline.Outline.add_thick_rows.Goals as goal

pub add_rows-requires-2 : goal.add_rows-requires-2
add_rows-requires-2 g c =
    middle_fits c.args.self.feathering c.args.self.width (g.B.Brush.paints c.args.brush.now) c.args.points.now
    c.end_rows.result c.thick_rows.result c.end_rows.result (mesh_state c.args.out.now) (mesh_state c.add_rows.new.self) (mesh_state c.add_rows.new.self)
    c.end_rows.ensures c.thick_rows.ensures c.add_rows.ensures c.requires.enough c.requires.space

pub add_rows-requires-3 : goal.add_rows-requires-3
add_rows-requires-3 g c =
    last_fits c.args.self.feathering c.args.self.width (g.B.Brush.paints c.args.brush.now) c.args.points.now
    c.end_rows.result c.thick_rows.result c.end_rows-2.result (mesh_state c.args.out.now) (mesh_state c.add_rows.new.self) (mesh_state c.add_rows-2.new.self)
    c.end_rows.ensures c.thick_rows.ensures c.add_rows.ensures c.requires.enough c.requires.space c.add_rows-2.ensures c.end_rows-2.ensures

pub returns : goal.returns
returns g c =
    thick_drawn c.args.self.feathering c.args.self.width (g.B.Brush.paints c.args.brush.now) c.args.points.now
    c.end_rows.result c.thick_rows.result c.end_rows-2.result (mesh_state c.args.out.now) (mesh_state c.add_rows.new.self) (mesh_state c.add_rows-2.new.self)
    c.end_rows.ensures c.thick_rows.ensures c.add_rows.ensures c.requires.enough c.requires.space c.add_rows-2.ensures c.end_rows-2.ensures
    (mesh_state c.add_rows-3.new.self) c.add_rows-3.ensures
