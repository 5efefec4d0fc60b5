-- What holds of every mesh that is cut.
use Rattle.std.specs.Prelude.{◌≡◌, ℕ, ◌+◌, ◌%◌, ◌<◌, ◌≤◌, List, [], ◌∷◌, length, take, slice_index, slice_index_or}
use Rattle.emath.specs.Answers.{accepted}
use Rattle.tessellator.specs.State.{MeshState}
use Rattle.tessellator.specs.Triangles.{Triangle, triples}
use Rattle.cutting.specs.Cutting.{Cutting}
use Rattle.cutting.specs.Outcome.{Outcome}
use Rattle.cutting.specs.declared.part.Part.{Part}

-- A mesh of at least one triangle is cut into no more parts than any cutting in order into legal runs has.
abbrev pub Fewest : MeshState → Outcome → Type 0
Fewest m o =
    (n : ℕ) → o.answer ≡ accepted n → 0 < length (triples m.indices) →
    (runs : List (List Triangle)) → Cutting (triples m.indices) runs → n ≤ length runs

-- A part has the mesh's texture, whole triangles, and no more vertices than 16-bit indices can name, all of them vertices of the
-- mesh. At each of its places its index, counted from its first vertex, names the vertex that the mesh's index names there, and
-- that is one of the part's.
pub record SoundPart (m : MeshState) (o : Outcome) (p : Part) : Type 0 where
  pub textured : p.texture_id ≡ m.texture
  pub triangles : p.index_count % 3 ≡ 0
  pub small : p.vertex_count ≤ 65535
  pub held : p.first_vertex + p.vertex_count ≤ length m.vertices
  pub same : (j : ℕ) → j < p.index_count → p.first_vertex + slice_index o.indices (p.first_index + j) ≡ slice_index m.indices (p.first_index + j)
  pub within : (j : ℕ) → j < p.index_count → slice_index m.indices (p.first_index + j) < p.first_vertex + p.vertex_count

abbrev pub Faithful : MeshState → Outcome → Type 0
Faithful m o = (n : ℕ) → o.answer ≡ accepted n → (k : ℕ) (d : Part) → k < n → SoundPart m o (slice_index_or o.parts k d)

-- the parts follow one another, from the index with the number a up to that with the number e
abbrev pub InRow : ℕ → List Part → ℕ → Type 0
InRow a [] e = a ≡ e
InRow a (p ∷ ps) e = (p.first_index ≡ a) × InRow (a + p.index_count) ps e

-- Every index of the mesh is in one part.
abbrev pub Complete : MeshState → Outcome → Type 0
Complete m o = (n : ℕ) → o.answer ≡ accepted n → InRow 0 (take n o.parts) (length m.indices)
