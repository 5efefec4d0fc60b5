-- Figures whose vertices come one after the other: none shares an edge with another, and each has vertices of its own.
use Rattle.std.proofs.Common.{◌≡◌, ℕ, zero, suc, ◌+◌, ◌-◌, ◌<◌, ◌≤◌, List, [], ◌∷◌, ◌++◌, length, refl, ap, ◌∙◌, inl, inr, arith, length-append}
use Rattle.std.specs.List.{flat_map}
use Rattle.std.proofs.lemmas.Bool.{cases_lt}
use Rattle.ecolor.specs.declared.vertex.Vertex.{Vertex}
use Rattle.tessellator.specs.Kinds.{fewest}
use Rattle.tessellator.specs.Outcome.{Figure, triangles_of}
use Rattle.promise.specs.Grown.{Look, Placed}
use Rattle.promise.specs.Promise.{point_count, vertex_count_of, drawn, placed, at, Coloured, Textured}
use Rattle.promise.specs.Rims.{shared, Edge}
use Rattle.promise.proofs.Ranges.{Within, within_raised, none_above, none_below, figure_within}
use Rattle.promise.proofs.Sums.{shared_append}
use Rattle.promise.proofs.Vertices.{at_left, at_right}

-- what a figure has by itself
pub record Proper (figure : Figure) (look : Look) : Type 0 where
  pub enough : fewest figure.kind ≤ point_count figure
  pub sized : length figure.vertices ≡ vertex_count_of figure
  pub coloured : Coloured figure look (at figure.vertices)
  pub textured : Textured figure look (at figure.vertices)

-- one past a figure's last vertex
abbrev pub past : Placed → ℕ
past f = f.first + vertex_count_of f.figure

-- proper figures, each of which begins where the last one ends, from a on
abbrev pub InOrder : ℕ → List Placed → Type 0
InOrder a [] = Unit {0}
InOrder a (f ∷ fs) = (f.first ≡ a) × Proper f.figure f.look × InOrder (past f) fs

-- ---- edges

edge_from : (f : Placed) (u v : ℕ) → 0 < shared u v (drawn f) → f.first ≤ u
edge_from f u v edge = elim (cases_lt u f.first) [
  | inl h ↦ absurd (let z = none_below f.first u v (triangles_of f.figure) (inl h) in omega (arith, edge, z))
  | inr h ↦ h
]

drawn_within : (f : Placed) → Proper f.figure f.look → Within (past f) (drawn f)
drawn_within f p = within_raised (vertex_count_of f.figure) f.first (triangles_of f.figure) (figure_within f.figure.kind (point_count f.figure) p.enough)

edge_upto : (f : Placed) (u v : ℕ) → Proper f.figure f.look → 0 < shared u v (drawn f) → u < past f
edge_upto f u v p edge = elim (cases_lt u (past f)) [
  | inl h ↦ h
  | inr h ↦ absurd (let z = none_above (past f) u v (drawn f) (drawn_within f p) (inl h) in omega (arith, edge, z))
]

edges_from : (a : ℕ) (fs : List Placed) (i u v : ℕ) → InOrder a fs → 0 < shared u v (drawn (placed fs i)) → a ≤ u
edges_from a [] i u v o edge = omega (arith, edge)
edges_from a (f ∷ fs) zero u v (e, p, o) edge = omega (arith, edge_from f u v edge)
edges_from a (f ∷ fs) (suc i) u v (e, p, o) edge = omega (arith, edges_from (past f) fs i u v o edge)

pub apart : (a : ℕ) (fs : List Placed) → InOrder a fs → (i j u v : ℕ) → Edge (drawn (placed fs i)) u v → Edge (drawn (placed fs j)) u v → i ≡ j
apart a [] o i j u v x y = omega (arith, x)
apart a (f ∷ fs) o zero zero u v x y = refl
apart a (f ∷ fs) (e, p, o) zero (suc j) u v x y = omega (arith, edge_upto f u v p x.1, edges_from (past f) fs j u v o y.1)
apart a (f ∷ fs) (e, p, o) (suc i) zero u v x y = omega (arith, edge_upto f u v p y.1, edges_from (past f) fs i u v o x.1)
apart a (f ∷ fs) (e, p, o) (suc i) (suc j) u v x y = ap suc (apart (past f) fs o i j u v x y)

none_before : (a : ℕ) (fs : List Placed) (u v : ℕ) → InOrder a fs → u < a → shared u v (flat_map drawn fs) ≡ 0
none_before a [] u v o h = refl
none_before a (f ∷ fs) u v (e, p, o) h =
    omega (arith, shared_append u v (drawn f) (flat_map drawn fs), none_below f.first u v (triangles_of f.figure) (inl (omega arith)), none_before (past f) fs u v o (omega arith))

-- an edge of a figure is in no other triangles than that figure's
pub only_there : (a : ℕ) (fs : List Placed) → InOrder a fs → (i u v : ℕ) → 0 < shared u v (drawn (placed fs i)) → shared u v (flat_map drawn fs) ≡ shared u v (drawn (placed fs i))
only_there a [] o i u v edge = refl
only_there a (f ∷ fs) (e, p, o) zero u v edge =
    omega (arith, shared_append u v (drawn f) (flat_map drawn fs), none_before (past f) fs u v o (edge_upto f u v p edge))
only_there a (f ∷ fs) (e, p, o) (suc i) u v edge =
    omega (
      arith,
      shared_append u v (drawn f) (flat_map drawn fs),
      only_there (past f) fs o i u v edge,
      none_above (past f) u v (drawn f) (drawn_within f p) (inl (edges_from (past f) fs i u v o edge)),
    )

-- ---- vertices

abbrev pub own : Placed → List Vertex
own f = f.figure.vertices

-- the vertex k of the figure i is among those of all figures
pub record Lies (a : ℕ) (fs : List Placed) (i k : ℕ) : Type 0 where
  pub from : a ≤ (placed fs i).first
  pub upto : (placed fs i).first + k < a + length (flat_map own fs)
  pub same : at (flat_map own fs) ((placed fs i).first + k - a) ≡ at (own (placed fs i)) k

pub lies : (a : ℕ) (fs : List Placed) (i k : ℕ) → InOrder a fs → k < vertex_count_of (placed fs i).figure → Lies a fs i k
lies a [] i k o h = absurd (omega arith)
lies a (f ∷ fs) zero k (e, p, o) h =
    let inside : k < length (own f) = omega (arith, p.sized) in
    let here : f.first + k - a ≡ k = omega arith in
    record {
      from = omega arith;
      upto = omega (arith, length-append (own f) (flat_map own fs));
      same = ap (at (own f ++ flat_map own fs)) here ∙ at_left (own f) (flat_map own fs) k inside;
    }
lies a (f ∷ fs) (suc i) k (e, p, o) h =
    let there = lies (past f) fs i k o h in
    let behind : (placed fs i).first + k - a - vertex_count_of f.figure ≡ (placed fs i).first + k - past f = omega (arith, there.from) in
    record {
      from = omega (arith, there.from);
      upto = omega (arith, length-append (own f) (flat_map own fs), there.upto, p.sized);
      same =
          at_right (own f) (flat_map own fs) (vertex_count_of f.figure) ((placed fs i).first + k - a) p.sized (omega (arith, there.from))
          ∙ ap (at (flat_map own fs)) behind ∙ there.same;
    }
