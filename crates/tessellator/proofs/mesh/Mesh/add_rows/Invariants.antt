use Rattle.std.proofs.Common.{◌≡◌, take}
use Rattle.tessellator.specs.Rows.{row_vertices}
use Rattle.tessellator.specs.State.{mesh_state, with_vertices}
use Rattle.tessellator.proofs.mesh.Mesh.add_rows.Given as goal

abbrev pub invariant-loop-point : goal.invariant-loop-point
invariant-loop-point g l = mesh_state l.self ≡ with_vertices (mesh_state l.initial.self) (row_vertices (g.B.Brush.paints l.brush) l.rows (take l.point-index l.points))
