use Rattle.std.proofs.Common.{refl}
use Rattle.tessellator.specs.State.{with_texture}
use Rattle.tessellator.proofs.mesh.Mesh.set_texture.Goals as goal

pub returns : goal.returns
unfolding with_texture
returns c = refl
