-- Appending another mesh.
use Rattle.std.proofs.Common.{◌≡◌, ℕ, ◌+◌, ◌*◌, ◌%◌, List, [], ◌∷◌, ◌++◌, map, length, drop, refl, ap, ◌∙◌, arith}
use Rattle.tessellator.specs.State.{MeshState, joined, with_vertices, with_triangles, with_texture}
use Rattle.tessellator.specs.Triangles.{flat, raised, triples}
use Rattle.tessellator.proofs.Triples.{length-triples}

raised_flat : (b : ℕ) (is : List ℕ) → length is % 3 ≡ 0 → flat (raised b (triples is)) ≡ map (λ i. b + i) is
raised_flat b [] h = refl
raised_flat b (x ∷ []) h = absurd (omega arith)
raised_flat b (x ∷ y ∷ []) h = absurd (omega arith)
raised_flat b (x ∷ y ∷ z ∷ is) h = ap (λ l. (b + x) ∷ (b + y) ∷ (b + z) ∷ l) (raised_flat b is (omega arith))

-- its vertices, then its triangles, then its texture
pub joined_is : (other m m₁ m₂ m₃ : MeshState) (base : ℕ) → length other.indices % 3 ≡ 0 → base ≡ length m.vertices → m₁ ≡ with_vertices m other.vertices → m₂ ≡ with_triangles base m₁ (triples other.indices) → m₃ ≡ with_texture m₂ other.texture →
    m₃ ≡ joined other m
unfolding joined with_vertices with_triangles with_texture
joined_is other m m₁ m₂ m₃ base three at e₁ e₂ e₃ =
    let b = length m.vertices in
    let whole : 3 * length (triples other.indices) ≡ length other.indices = omega (arith, length-triples other.indices) in
    e₃ ∙ ap (λ s. with_texture s other.texture) (e₂ ∙ ap (λ s. with_triangles base s (triples other.indices)) e₁ ∙ ap (λ k. with_triangles k (with_vertices m other.vertices) (triples other.indices)) at)
    ∙ (λ i. record {
      vertices = m.vertices ++ other.vertices;
      unused_vertices = drop (length other.vertices) m.unused_vertices;
      indices = m.indices ++ raised_flat b other.indices three i;
      unused_indices = drop (whole i) m.unused_indices;
      texture = other.texture;
    })
