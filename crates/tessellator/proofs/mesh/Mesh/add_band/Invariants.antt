use Rattle.std.proofs.Common.{◌≡◌}
use Rattle.tessellator.specs.Kinds.{each, cell}
use Rattle.tessellator.specs.State.{mesh_state, with_triangles}
use Rattle.tessellator.proofs.mesh.Mesh.add_band.Given as goal

abbrev pub invariant-loop-r : goal.invariant-loop-r
invariant-loop-r l = mesh_state l.self ≡ with_triangles l.base (mesh_state l.initial.self) (each l.r (cell l.rows l.i l.j))
