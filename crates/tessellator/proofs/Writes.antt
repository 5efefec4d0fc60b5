-- Writes behind what a mesh has, and the room that is left there.
use Rattle.std.proofs.Common.{◌≡◌, ℕ, zero, suc, ◌+◌, ◌*◌, ◌%◌, ◌<◌, ◌≤◌, List, [], ◌∷◌, ◌++◌, length, get_or, drop, sym, ap, ◌∙◌, subst, mul-le-mul_left, mul-suc, arith, length-append}
use Rattle.slice_vec.proofs.Writing.{all_pushed, used_few}
use Rattle.slice_vec.specs.Held.{Held, pushed, extended, room}
use Rattle.ecolor.specs.declared.vertex.Vertex.{Vertex}
use Rattle.tessellator.specs.declared.mesh.Mesh.{Mesh}
use Rattle.tessellator.specs.State.{MeshState, mesh_state, with_vertices, with_triangles, vertex_room, index_room}
use Rattle.tessellator.specs.Triangles.{Triangle, flat, raised}
use Rattle.tessellator.proofs.Growth.{length-raised}
use Rattle.tessellator.proofs.Triples.{length-flat}

-- what a mesh holds of each list
abbrev pub vertices_of : MeshState → Held Vertex
vertices_of m = record { used = m.vertices; unused = m.unused_vertices }

abbrev pub indices_of : MeshState → Held ℕ
indices_of m = record { used = m.indices; unused = m.unused_indices }

-- vertices that there is room for
module _ (m : MeshState) (next : Held Vertex) (xs : List Vertex) (fits : length xs ≤ vertex_room m) (e : next ≡ pushed 16777216 (vertices_of m) xs) where
  vertices_extended : next ≡ extended (vertices_of m) xs
  unfolding vertex_room room
  vertices_extended = e ∙ sym (all_pushed 16777216 (vertices_of m) xs fits)

  pub vertices_put : record { vertices = next.used; unused_vertices = next.unused; indices = m.indices; unused_indices = m.unused_indices; texture = m.texture } ≡ with_vertices m xs
  unfolding with_vertices extended
  vertices_put = ap (λ (h : Held Vertex). record { vertices = h.used; unused_vertices = h.unused; indices = m.indices; unused_indices = m.unused_indices; texture = m.texture }) vertices_extended

  pub more_vertices : length next.used ≡ length m.vertices + length xs
  unfolding extended
  more_vertices = ap (λ (h : Held Vertex). length h.used) vertices_extended ∙ length-append m.vertices xs

-- three more indices below n
pub three_below : (l : List ℕ) (a b c n : ℕ) → ((k : ℕ) → k < length l → get_or l k 0 < n) → a < n → b < n → c < n → (k : ℕ) → k < length (l ++ a ∷ b ∷ c ∷ []) → get_or (l ++ a ∷ b ∷ c ∷ []) k 0 < n
three_below [] a b c n old ha hb hc zero h = ha
three_below [] a b c n old ha hb hc (suc zero) h = hb
three_below [] a b c n old ha hb hc (suc (suc zero)) h = hc
three_below [] a b c n old ha hb hc (suc (suc (suc k))) h = absurd (omega arith)
three_below (x ∷ l) a b c n old ha hb hc zero h = old zero (omega arith)
three_below (x ∷ l) a b c n old ha hb hc (suc k) h = three_below l a b c n (λ j lt. old (suc j) (omega arith)) ha hb hc k (omega arith)

-- triangles that there is room for
module _ (m : MeshState) (next : Held ℕ) (base : ℕ) (ts : List Triangle) (fits : 3 * length ts ≤ index_room m) (e : next ≡ pushed 100663296 (indices_of m) (flat (raised base ts))) where
  long : length (flat (raised base ts)) ≡ 3 * length ts
  long = length-flat (raised base ts) ∙ ap (λ n. 3 * n) (length-raised base ts)

  pub indices_extended : next ≡ extended (indices_of m) (flat (raised base ts))
  unfolding index_room room
  indices_extended = e ∙ sym (all_pushed 100663296 (indices_of m) _ (omega (arith, long, fits)))

  pub triangles_put : record { vertices = m.vertices; unused_vertices = m.unused_vertices; indices = next.used; unused_indices = next.unused; texture = m.texture } ≡ with_triangles base m ts
  unfolding with_triangles extended
  triangles_put =
      ap (λ (h : Held ℕ). record { vertices = m.vertices; unused_vertices = m.unused_vertices; indices = h.used; unused_indices = h.unused; texture = m.texture }) indices_extended
      ∙ ap (λ k. record { vertices = m.vertices; unused_vertices = m.unused_vertices; indices = m.indices ++ flat (raised base ts); unused_indices = drop k m.unused_indices; texture = m.texture }) long

  pub whole_triangles : length m.indices % 3 ≡ 0 → length next.used % 3 ≡ 0
  unfolding extended
  whole_triangles whole = omega (arith, ap (λ (h : Held ℕ). length h.used) indices_extended, length-append m.indices (flat (raised base ts)), long, whole)

  pub all_named : (n : ℕ) → ((k : ℕ) → k < length (m.indices ++ flat (raised base ts)) → get_or (m.indices ++ flat (raised base ts)) k 0 < n) → (k : ℕ) → k < length next.used → get_or next.used k 0 < n
  unfolding extended
  all_named n = subst (λ (h : Held ℕ). (k : ℕ) → k < length h.used → get_or h.used k 0 < n) (sym indices_extended)

-- all rows of the point k are among the vertices of a figure that the mesh has
pub point_within : (m : Mesh) (base rows points k : ℕ) → base + rows * points ≤ length (mesh_state m).vertices → k < points → (base + rows * k + rows ≤ length (mesh_state m).vertices) × (rows * k ≤ 16777216)
point_within m base rows points k h hk =
    let one_more : suc k ≤ points = omega arith in
    let place = mul-le-mul_left rows one_more in
    let few = used_few m.vertices in
    (omega (arith, place, mul-suc rows k), omega (arith, place, mul-suc rows k))
