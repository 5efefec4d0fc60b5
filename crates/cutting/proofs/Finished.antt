-- What a finished mesh keeps, of its state.
use Rattle.std.proofs.Common.{◌≡◌, ℕ, ◌%◌, ◌<◌, length, get_or}
use Rattle.tessellator.specs.State.{MeshState, finished_state}
use Rattle.tessellator.specs.declared.finished.Finished.{Finished}

-- three indices to a triangle, and each names a vertex
pub record Proper (m : MeshState) : Type 0 where
  pub threes : length m.indices % 3 ≡ 0
  pub named : (k : ℕ) → k < length m.indices → get_or m.indices k 0 < length m.vertices

pub proper : (f : Finished) → Proper (finished_state f)
proper f = record { threes = f.mesh.triangles; named = f.mesh.named }
