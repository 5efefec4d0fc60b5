use Rattle.std.proofs.Common.{◌≡◌, take}
use Rattle.tessellator.specs.State.{mesh_state, with_triangles}
use Rattle.tessellator.specs.Triangles.{triples}
use Rattle.tessellator.proofs.mesh.Mesh.copy_triangles.Given as goal

abbrev pub invariant-loop-triangle : goal.invariant-loop-triangle
invariant-loop-triangle l = mesh_state l.self ≡ with_triangles l.base (mesh_state l.initial.self) (take l.triangle-index (triples l.indices))
