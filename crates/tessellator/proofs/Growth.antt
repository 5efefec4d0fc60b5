-- One growth after another is a growth by both lists, and takes their room.
use Rattle.std.proofs.Common.{◌≡◌, ℕ, zero, suc, ◌+◌, ◌-◌, ◌*◌, ◌≤◌, List, [], ◌∷◌, ◌++◌, length, sym, refl, ap, ◌∙◌, append_assoc, suc-mul, zero-mul, add-one, arith, length-append, length-drop}
use mathlib.Core.List.{map-append}
use Rattle.std.proofs.lemmas.List.{append-nil, drop-drop}
use Rattle.tessellator.specs.Kinds.{each, cell, band}
use Rattle.tessellator.specs.State.{MeshState, appended, with_vertices, with_triangles, vertex_room, index_room}
use Rattle.tessellator.specs.Triangles.{Triangle, raise, raised}
use Rattle.ecolor.specs.declared.vertex.Vertex.{Vertex}
use Rattle.tessellator.proofs.Triples.{flat_append, length-flat}

raised_append : (b : ℕ) (ts us : List Triangle) → raised b (ts ++ us) ≡ raised b ts ++ raised b us
raised_append b ts us = map-append (raise b) ts us

-- ---- vertices

pub vertices_none : (m : MeshState) → m ≡ with_vertices m []
unfolding with_vertices
vertices_none m = simp append-nil

pub vertices_more : (m : MeshState) (xs ys : List Vertex) → with_vertices (with_vertices m xs) ys ≡ with_vertices m (xs ++ ys)
unfolding with_vertices
vertices_more m xs ys = simp (append_assoc, length-append, drop-drop)

-- A turn of a loop: m is what the loop began with, m₁ what the turn began with, and m₂ what it leaves.
pub vertices_step : (m m₁ m₂ : MeshState) (xs ys zs : List Vertex) → m₁ ≡ with_vertices m xs → m₂ ≡ with_vertices m₁ ys → zs ≡ xs ++ ys → m₂ ≡ with_vertices m zs
vertices_step m m₁ m₂ xs ys zs e₁ e₂ e = e₂ ∙ ap (λ s. with_vertices s ys) e₁ ∙ vertices_more m xs ys ∙ ap (with_vertices m) (sym e)

module _ (m m₁ : MeshState) (xs : List Vertex) (e : m₁ ≡ with_vertices m xs) where
  pub vertex_room_left : (k : ℕ) → length xs + k ≤ vertex_room m → k ≤ vertex_room m₁
  unfolding with_vertices vertex_room
  vertex_room_left k h = rw e (simp (length-append, length-drop) (omega arith))

  pub vertices_added : length m₁.vertices ≡ length m.vertices + length xs
  unfolding with_vertices
  vertices_added = ap (λ s. length s.vertices) e ∙ length-append m.vertices xs

  pub index_room_kept : index_room m₁ ≡ index_room m
  unfolding with_vertices index_room
  index_room_kept = ap index_room e

-- ---- triangles

pub triangles_none : (base : ℕ) (m : MeshState) → m ≡ with_triangles base m []
unfolding with_triangles
triangles_none base m = simp append-nil

pub length-raised : (b : ℕ) (ts : List Triangle) → length (raised b ts) ≡ length ts
length-raised b [] = refl
length-raised b (t ∷ ts) = ap suc (length-raised b ts)

pub triangles_more : (base : ℕ) (m : MeshState) (xs ys : List Triangle) → with_triangles base (with_triangles base m xs) ys ≡ with_triangles base m (xs ++ ys)
unfolding with_triangles
triangles_more base m xs ys =
    let long : 3 * length (xs ++ ys) ≡ 3 * length xs + 3 * length ys = omega (arith, length-append xs ys) in
    simp (append_assoc, raised_append, flat_append, long, drop-drop)

pub triangles_step : (m m₁ m₂ : MeshState) (base : ℕ) (xs ys zs : List Triangle) → m₁ ≡ with_triangles base m xs → m₂ ≡ with_triangles base m₁ ys → zs ≡ xs ++ ys → m₂ ≡ with_triangles base m zs
triangles_step m m₁ m₂ base xs ys zs e₁ e₂ e = e₂ ∙ ap (λ s. with_triangles base s ys) e₁ ∙ triangles_more base m xs ys ∙ ap (with_triangles base m) (sym e)

module _ (m m₁ : MeshState) (base : ℕ) (xs : List Triangle) (e : m₁ ≡ with_triangles base m xs) where
  pub index_room_left : (k : ℕ) → 3 * length xs + k ≤ index_room m → k ≤ index_room m₁
  unfolding with_triangles index_room
  index_room_left k h = rw e (simp (length-append, length-drop, length-flat, length-raised) (omega arith))

  pub vertices_kept : length m₁.vertices ≡ length m.vertices
  unfolding with_triangles
  vertices_kept = ap (λ s. length s.vertices) e

-- vertices, and then triangles among them
pub figure_drawn : (m m₁ m₂ : MeshState) (base : ℕ) (vs : List Vertex) (ts : List Triangle) → base ≡ length m.vertices → m₁ ≡ with_vertices m vs → m₂ ≡ with_triangles base m₁ ts → m₂ ≡ appended m vs ts
figure_drawn m m₁ m₂ base vs ts b e₁ e₂ = e₂ ∙ ap (λ k. with_triangles k m₁ ts) b ∙ ap (λ s. with_triangles (length m.vertices) s ts) e₁

-- ---- lists of a part for each step

module _ (f : ℕ → List Triangle) where
  pub each_more : (i : ℕ) → each (i + 1) f ≡ each i f ++ f i
  each_more i = rw add-one

  pub length-each : (k : ℕ) → ((i : ℕ) → length (f i) ≡ k) → (n : ℕ) → length (each n f) ≡ n * k
  length-each k all zero = sym (zero-mul k)
  length-each k all (suc n) = let e = length-each k all n in let h = all n in rw (length-append, suc-mul) (omega arith)

pub length-band : (R i j : ℕ) → 3 * length (band R i j) ≡ 6 * (R - 1)
length-band R i j = let e = length-each (cell R i j) 2 (λ r. refl) (R - 1) in omega arith

pub one_and_rest : (n k : ℕ) → 1 ≤ n → n * k ≡ k + (n - 1) * k
one_and_rest n k h =
    let e : n ≡ suc (n - 1) = omega arith in
    ap (λ x. x * k) e ∙ omega (arith, suc-mul (n - 1) k)
