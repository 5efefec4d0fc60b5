-- What every mesh has that a run of calls has made: its figures' vertices and triangles, one figure after the other.
use Rattle.std.proofs.Common.{◌≡◌, ℕ, ◌+◌, Bool, true, false, List, [], ◌∷◌, ◌++◌, map, length, Ok, Err, Result, sym, refl, ap, ◌∙◌, subst, ap₂, append_assoc, add_assoc, arith, length-append}
use mathlib.Core.List.{map-append}
use Rattle.std.specs.List.{flat_map}
use Rattle.std.proofs.lemmas.List.{append-nil}
use Rattle.std.proofs.lemmas.Bool.{cond_both}
use Rattle.emath.specs.Answers.{Answer, accepted, refused}
use Rattle.path.specs.Held.{Held}
use Rattle.path.specs.declared.point.PathPoint.{PathPoint}
use Rattle.ecolor.specs.Colors.{is_transparent}
use Rattle.ecolor.specs.declared.color.Color32.{Color32}
use Rattle.ecolor.specs.declared.vertex.TextureId.{TextureId}
use Rattle.tessellator.specs.Outcome.{Figure, Outcome, triangles_of, outcome, settled, textured_outcome, textured_settled, reserved, size_of, Joining, joining, joined_as}
use Rattle.tessellator.specs.State as State
use Rattle.tessellator.specs.State.{MeshState, with_vertices, with_triangles, with_texture}
use Rattle.tessellator.specs.Triangles.{Triangle, tri, flat, triples, raise, raised}
use Rattle.tessellator.specs.declared.fault.Appended.{Appended}
use Rattle.tessellator.specs.declared.fault.FigureFault.{FigureFault}
use Rattle.tessellator.proofs.Triples.{flat_append}
use Rattle.promise.specs.Grown.{Look, Placed, added, copied, shifted}
use Rattle.promise.specs.Promise.{vertex_count_of, drawn}
use Rattle.promise.proofs.Apart.{Proper, past, InOrder, own}

pub record Laid (m : MeshState) (figures : List Placed) : Type 0 where
  pub vertices : m.vertices ≡ flat_map own figures
  pub indices : m.indices ≡ flat (flat_map drawn figures)
  pub order : InOrder 0 figures

-- ---- lists

joined_append : {X Y : Type 0} (f : X → List Y) (xs ys : List X) → flat_map f (xs ++ ys) ≡ flat_map f xs ++ flat_map f ys
joined_append f [] ys = refl
joined_append f (x ∷ xs) ys = ap (λ l. f x ++ l) (joined_append f xs ys) ∙ sym (append_assoc (f x) (flat_map f xs) (flat_map f ys))

flat_raised : (c : ℕ) (ts : List Triangle) → map (λ i. c + i) (flat ts) ≡ flat (raised c ts)
flat_raised c [] = refl
flat_raised c (tri x y z ∷ ts) = ap (λ l. (c + x) ∷ (c + y) ∷ (c + z) ∷ l) (flat_raised c ts)

pub triples_flat : (ts : List Triangle) → triples (flat ts) ≡ ts
triples_flat [] = refl
triples_flat (tri x y z ∷ ts) = ap (λ l. tri x y z ∷ l) (triples_flat ts)

raised_raised : (c b : ℕ) (ts : List Triangle) → raised (c + b) ts ≡ raised c (raised b ts)
raised_raised c b [] = refl
raised_raised c b (tri x y z ∷ ts) = simp (add_assoc, raised_raised c b ts)

-- ---- further figures

order_append : (a b : ℕ) (fs gs : List Placed) → a + length (flat_map own fs) ≡ b → InOrder a fs → InOrder b gs → InOrder a (fs ++ gs)
order_append a b [] gs e o k = subst (λ x. InOrder x gs) (let z : b ≡ a = omega arith in z) k
order_append a b (f ∷ fs) gs e (first, p, o) k =
    (first, p, order_append (past f) b fs gs (omega (arith, p.sized, length-append (own f) (flat_map own fs))) o k)

-- a mesh with further figures, whose vertices come behind its own
laid_more : (m m' : MeshState) (figures more : List Placed) → Laid m figures →
    m'.vertices ≡ m.vertices ++ flat_map own more → m'.indices ≡ m.indices ++ flat (flat_map drawn more) → InOrder (length m.vertices) more →
    Laid m' (figures ++ more)
laid_more m m' figures more h v i o = record {
  vertices = v ∙ ap (λ l. l ++ flat_map own more) h.vertices ∙ sym (joined_append own figures more);
  indices = i ∙ ap (λ l. l ++ flat (flat_map drawn more)) h.indices ∙ sym (flat_append (flat_map drawn figures) (flat_map drawn more)) ∙ ap flat (sym (joined_append drawn figures more));
  order = order_append 0 (length m.vertices) figures more (omega (arith, ap length h.vertices)) h.order o;
}

laid_same : (m m' : MeshState) (figures : List Placed) → m' ≡ m → Laid m figures → Laid m' (figures ++ [])
laid_same m m' figures e h = subst (λ x. Laid x (figures ++ [])) (sym e) (subst (Laid m) (sym (append-nil figures)) h)

-- ---- draws

-- the figure's vertices and triangles come behind those of the mesh
abbrev Gains : Figure → MeshState → MeshState → Type 0
Gains figure m m' = (m'.vertices ≡ m.vertices ++ figure.vertices) × (m'.indices ≡ m.indices ++ flat (raised (length m.vertices) (triangles_of figure)))

-- what a draw's answer says of the mesh
abbrev Changed : Answer Appended → Figure → MeshState → MeshState → Type 0
Changed (accepted size) figure m m' = Gains figure m m'
Changed (refused number values) figure m m' = m' ≡ m

abbrev Leaves : Figure → MeshState → Outcome → Type 0
Leaves figure m o = Changed o.answer figure m o.mesh

laid_changed : (answer : Answer Appended) (m m' : MeshState) (figures : List Placed) (figure : Figure) (look : Look) → Proper figure look → Laid m figures →
    Changed answer figure m m' → Laid m' (figures ++ added answer m figure look)
laid_changed (accepted size) m m' figures figure look p h (v, i) =
    let f : Placed = record { figure = figure; look = look; first = length m.vertices } in
    laid_more m m' figures (f ∷ []) h
    (v ∙ ap (λ l. m.vertices ++ l) (sym (append-nil (own f))))
    (i ∙ ap (λ l. m.indices ++ flat l) (sym (append-nil (drawn f))))
    (refl, p, tt)
laid_changed (refused number values) m m' figures figure look p h e = laid_same m m' figures e h

settled_leaves : (why : Result (Unit {0}) FigureFault) (figure : Figure) (p : Held PathPoint) (m : MeshState) → Leaves figure m (settled why figure p m)
unfolding with_vertices with_triangles
settled_leaves (Ok t) figure p m = (refl, refl)
settled_leaves (Err fault) figure p m = refl

outcome_leaves : (allowed : Bool) (figure : Figure) (p : Held PathPoint) (m : MeshState) → Leaves figure m (outcome allowed figure p m)
outcome_leaves true figure p m = settled_leaves (reserved (size_of figure) m) figure p m
outcome_leaves false figure p m = refl

textured_settled_lem : (why : Result (Unit {0}) FigureFault) (texture : TextureId) (figure : Figure) (p : Held PathPoint) (m : MeshState) → Leaves figure m (textured_settled why texture figure p m)
unfolding with_vertices with_triangles with_texture
textured_settled_lem (Ok t) texture figure p m = (refl, refl)
textured_settled_lem (Err fault) texture figure p m = refl

-- nothing is drawn of a transparent fill
abbrev Empty : Figure → Type 0
Empty figure = (figure.vertices ≡ []) × (triangles_of figure ≡ [])

empty_gains : (figure : Figure) (m : MeshState) → Empty figure → Gains figure m m
empty_gains figure m (v, t) = (
  sym (append-nil m.vertices) ∙ ap (λ l. m.vertices ++ l) (sym v),
  sym (append-nil m.indices) ∙ ap (λ l. m.indices ++ flat (raised (length m.vertices) l)) (sym t),
)

textured_leaves : (allowed : Bool) (color : Color32) (texture : TextureId) (figure : Figure) (p : Held PathPoint) (m : MeshState) →
    (is_transparent color ≡ true → Empty figure) → Leaves figure m (textured_outcome allowed color texture figure p m)
textured_leaves false color texture figure p m none = refl
textured_leaves true color texture figure p m none =
    cond_both (is_transparent color) _ _ (Leaves figure m) (λ e. empty_gains figure m (none e)) (λ _. textured_settled_lem _ texture figure p m)

module _ (answer : Answer Appended) (p' : Held PathPoint) (m m' : MeshState) (figures : List Placed) (figure : Figure) (look : Look) (proper : Proper figure look) (h : Laid m figures) where
  abbrev Next : Outcome → Type 0
  Next o = record { answer = answer; path = p'; mesh = m' } ≡ o → Laid m' (figures ++ added answer m figure look)

  laid_leaves : (o : Outcome) → Leaves figure m o → Next o
  laid_leaves o leaves e = laid_changed answer m m' figures figure look proper h (subst (Leaves figure m) (sym e) leaves)

  pub laid_outcome : (allowed : Bool) (p : Held PathPoint) → Next (outcome allowed figure p m)
  laid_outcome allowed p = laid_leaves _ (outcome_leaves allowed figure p m)

  pub laid_textured : (allowed : Bool) (color : Color32) (texture : TextureId) (p : Held PathPoint) → (is_transparent color ≡ true → Empty figure) →
      Next (textured_outcome allowed color texture figure p m)
  laid_textured allowed color texture p none = laid_leaves _ (textured_leaves allowed color texture figure p m none)

-- ---- appending another mesh

own_shifted : (c : ℕ) (fs : List Placed) → flat_map own (map (shifted c) fs) ≡ flat_map own fs
own_shifted c [] = refl
own_shifted c (f ∷ fs) = ap (λ l. own f ++ l) (own_shifted c fs)

drawn_shifted : (c : ℕ) (fs : List Placed) → flat_map drawn (map (shifted c) fs) ≡ raised c (flat_map drawn fs)
drawn_shifted c [] = refl
drawn_shifted c (f ∷ fs) =
    ap₂ ◌++◌ (raised_raised c f.first (triangles_of f.figure)) (drawn_shifted c fs) ∙ sym (map-append (raise c) (drawn f) (flat_map drawn fs))

order_shifted : (c a : ℕ) (fs : List Placed) → InOrder a fs → InOrder (c + a) (map (shifted c) fs)
order_shifted c a [] o = tt
order_shifted c a (f ∷ fs) (e, p, o) =
    let behind : c + past f ≡ c + f.first + vertex_count_of f.figure = omega arith in
    (omega arith, p, subst (λ x. InOrder x (map (shifted c) fs)) behind (order_shifted c (past f) fs o))

laid_joined : (m other : MeshState) (figures others : List Placed) → Laid m figures → Laid other others →
    Laid (State.joined other m) (figures ++ map (shifted (length m.vertices)) others)
unfolding State.joined
laid_joined m other figures others h k =
    let c : ℕ = length m.vertices in
    let from : c + 0 ≡ c = omega arith in
    laid_more m (State.joined other m) figures (map (shifted c) others) h
    (ap (λ l. m.vertices ++ l) (k.vertices ∙ sym (own_shifted c others)))
    (ap (λ l. m.indices ++ l) (ap (map (λ i. c + i)) k.indices ∙ flat_raised c (flat_map drawn others) ∙ ap flat (sym (drawn_shifted c others))))
    (subst (λ x. InOrder x (map (shifted c) others)) from (order_shifted c 0 others k.order))

laid_unless : (why : Result (Unit {0}) FigureFault) (m other : MeshState) (figures others : List Placed) → Laid m figures → Laid other others →
    Laid (joined_as why (State.joined other m) m).mesh (figures ++ copied (joined_as why (State.joined other m) m).answer m others)
laid_unless (Ok t) m other figures others h k = laid_joined m other figures others h k
laid_unless (Err fault) m other figures others h k = laid_same m m figures refl h

pub laid_append : (answer : Answer (Unit {0})) (m m' other : MeshState) (figures others : List Placed) → Laid m figures → Laid other others →
    record { answer = answer; mesh = m' } ≡ joining other m → Laid m' (figures ++ copied answer m others)
laid_append answer m m' other figures others h k e =
    subst (λ (j : Joining). Laid j.mesh (figures ++ copied j.answer m others)) (sym e) (laid_unless _ m other figures others h k)
