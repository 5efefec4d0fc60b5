-- The promise, from what the steps of a run leave.
use Rattle.std.proofs.Common.{◌≡◌, ℕ, zero, suc, ◌+◌, ◌-◌, ◌*◌, ◌<◌, ◌≤◌, List, [], ◌∷◌, length, Some, None, sym, refl, ap, ◌∙◌, subst, arith}
use Rattle.std.specs.List.{flat_map}
use Rattle.emath.specs.Answers.{Answer}
use Rattle.ecolor.specs.declared.vertex.Vertex.{Vertex}
use Rattle.tessellator.specs.Kinds.{rows, vertex_count}
use Rattle.tessellator.specs.Outcome.{Figure, triangles_of}
use Rattle.tessellator.specs.State.{MeshState}
use Rattle.tessellator.specs.Triangles.{triples}
use Rattle.tessellator.specs.declared.kind.Kind.{Kind}
use Rattle.tessellator.specs.declared.kind.Kind.TheVariants.{Nothing, HardFill, FeatheredFill, Line, Loop, Filled}
use Rattle.tessellator.specs.declared.stroke.Style.{Style}
use Rattle.tessellator.specs.declared.stroke.Style.TheVariants.{Hard, Thin, Thick}
use Rattle.promise.specs.Grown.{Grown, Placed, begun, filled, textured, stroked, appended, fill_look, pen_with}
use Rattle.promise.specs.Promise.{Never, Stands, FewestParts, point_count, vertex_count_of, placed, drawn, at, vertex_in, style_in, core_colour, IsOfTwo, RimOf}
use Rattle.promise.specs.Rims.{shared, Rim}
use Rattle.promise.proofs.Apart.{Proper, past, InOrder, own, lies, apart, only_there}
use Rattle.promise.proofs.Figures.{figure_kept}
use Rattle.promise.proofs.Fills.{nothing_proper, fill_proper, textured_proper, clear_empty, none_some}
use Rattle.promise.proofs.Laid.{Laid, laid_outcome, laid_textured, laid_append, triples_flat}
use Rattle.promise.proofs.Ranges.{Kept, raised_kept, vertex_below}
use Rattle.promise.proofs.Strokes.{stroke_proper, core_below}

laid : {m : MeshState} {figures : List Placed} → Grown m figures → Laid m figures
laid (begun vertices indices texture) = record { vertices = refl; indices = refl; order = tt }
laid (filled {m} {m'} {figures} {p'} {answer} p feathering color g e) =
    laid_outcome answer p' m m' figures _ _ (fill_proper feathering color p.used (fill_look None) refl) (laid g) _ p e
laid (textured {m} {m'} {figures} {p'} {answer} p feathering color texture rule g e) =
    laid_textured answer p' m m' figures _ _ (textured_proper feathering color rule p.used) (laid g) _ color texture p (clear_empty feathering color rule p.used) e
laid (stroked {m} {m'} {figures} {p'} {answer} p feathering width kind course rule g e) =
    laid_outcome answer p' m m' figures _ _ (stroke_proper (pen_with feathering width kind course rule) p.used) (laid g) _ p e
laid (appended {m} {m'} {other} {figures} {others} {answer} g k e) = laid_append answer m m' other figures others (laid g) (laid k) e

-- the vertices of a stroke's rows are among its vertices
rows_within : (kind : Kind) (s : Style) (n : ℕ) → style_in kind ≡ Some s → rows s * n ≤ vertex_count kind n
rows_within Nothing s n e = none_some e
rows_within HardFill s n e = none_some e
rows_within FeatheredFill s n e = none_some e
rows_within (Line t) s n e = let same : t ≡ s = cc in rw same (omega arith)
rows_within (Loop t) s n e = let same : t ≡ s = cc in rw same (omega arith)
rows_within (Filled Hard) s n e = let same : s ≡ Hard = cc in rw same (omega arith)
rows_within (Filled Thin) s n e = let same : s ≡ Thin = cc in rw same (omega arith)
rows_within (Filled Thick) s n e = let same : s ≡ Thick = cc in rw same (omega arith)

proper_at : (a : ℕ) (fs : List Placed) (i : ℕ) → InOrder a fs → Proper (placed fs i).figure (placed fs i).look
proper_at a [] i o = nothing_proper [] (fill_look None)
proper_at a (f ∷ fs) zero (e, p, o) = p
proper_at a (f ∷ fs) (suc i) (e, p, o) = proper_at (past f) fs i o

module _ (m : MeshState) (figures : List Placed) (h : Laid m figures) where
  proper : (i : ℕ) → Proper (placed figures i).figure (placed figures i).look
  proper i = proper_at 0 figures i h.order

  same_triangles : triples m.indices ≡ flat_map drawn figures
  same_triangles = ap triples h.indices ∙ triples_flat (flat_map drawn figures)

  same_vertex : (i k : ℕ) → k < vertex_count_of (placed figures i).figure → at (own (placed figures i)) k ≡ vertex_in m (placed figures i) k
  same_vertex i k l =
      let from : (placed figures i).first + k ≡ (placed figures i).first + k - 0 = omega arith in
      sym (ap (λ vs. at vs ((placed figures i).first + k)) h.vertices ∙ ap (at (flat_map own figures)) from ∙ (lies 0 figures i k h.order l).same)

  in_mesh : (i u v : ℕ) → 0 < shared u v (drawn (placed figures i)) → shared u v (triples m.indices) ≡ shared u v (drawn (placed figures i))
  in_mesh i u v some = ap (shared u v) same_triangles ∙ only_there 0 figures h.order i u v some

  kept : (i : ℕ) → (IsOfTwo (placed figures i) → ⊥) → (u v : ℕ) → Kept (drawn (placed figures i)) (RimOf (placed figures i)) u v
  kept i many =
      let f : Figure = (placed figures i).figure in
      raised_kept (placed figures i).first (triangles_of f) (Rim f.kind (point_count f)) (λ u v. figure_kept f.kind (point_count f) u v (proper i).enough many)

  never : (answer : Answer ℕ) → FewestParts m answer → Never m figures answer
  never answer fewest = record {
    triangles = same_triangles;
    apart = apart 0 figures h.order;
    rim = λ i u v many r. let one = (kept i many u v).0 r in in_mesh i u v (omega arith) ∙ one;
    inner = λ i u v many edge off. in_mesh i u v edge.1 ∙ (kept i many u v).1 edge off;
    held = λ i k l. omega (arith, ap length h.vertices, (lies 0 figures i k h.order l).upto);
    coloured = λ i s e p r hp hr.
        let f : Figure = (placed figures i).figure in
        let inside : rows s * p + r < vertex_count_of f = omega (arith, vertex_below (rows s) p r (point_count f) hp (core_below s r hr), rows_within f.kind s (point_count f) e) in
        subst (λ (v : Vertex). v.color ≡ core_colour s (placed figures i).look v.pos) (same_vertex i (rows s * p + r) inside) ((proper i).coloured s e p r hp hr);
    textured = λ i rule e k l. subst (λ (v : Vertex). v.uv ≡ rule v.pos) (same_vertex i k l) ((proper i).textured rule e k l);
    fewest = fewest;
  }

pub stands : (m : MeshState) (answer : Answer ℕ) → FewestParts m answer → Stands m answer
stands m answer fewest figures g = never m figures (laid g) answer fewest
