use Rattle.std.proofs.Common.{◌≡◌, ◌+◌}
use Rattle.tessellator.specs.Joints.{joint}
use Rattle.tessellator.specs.Kinds.{each}
use Rattle.tessellator.specs.State.{mesh_state, with_triangles}
use Rattle.tessellator.proofs.mesh.Mesh.add_joints.Given as goal

abbrev pub invariant-loop-i : goal.invariant-loop-i
invariant-loop-i l = mesh_state l.self ≡ with_triangles l.own.base (mesh_state l.initial.self) (each l.i (λ i. joint l.kind i (i + 1)))
