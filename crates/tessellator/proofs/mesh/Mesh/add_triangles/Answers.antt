use Rattle.std.proofs.Common.{sym, ap, ◌∙◌}
use Rattle.tessellator.specs.Kinds.{triangles}
use Rattle.tessellator.specs.State.{mesh_state, with_triangles}
use Rattle.tessellator.proofs.Growth.{triangles_none}
use Rattle.tessellator.proofs.mesh.Mesh.add_triangles.Goals as goal

pub returns-in-Nothing : goal.returns-in-Nothing
returns-in-Nothing c =
    triangles_none c.args.own.base _ ∙ ap (λ k. with_triangles c.args.own.base (mesh_state c.args.self.now) (triangles k c.args.own.points)) (sym c.in-Nothing.is)
