-- What every draw's answer says of the mesh and of its sizing.
use Rattle.std.proofs.Common.{◌≡◌, ℕ, ◌+◌, ◌*◌, ◌≤◌, Bool, true, false, eqb, length, Ok, Err, Result, refl, ap, ◌∙◌, arith, length-append}
use Rattle.std.proofs.lemmas.List.{take_at}
use Rattle.std.proofs.lemmas.Bool.{cond-true, le-leb, or_right}
use Rattle.emath.specs.Answers.{accepted}
use Rattle.path.specs.Held.{Held}
use Rattle.path.specs.declared.point.PathPoint.{PathPoint}
use Rattle.tessellator.specs.Outcome.{Figure, Added, Grows, Sized, outcome, settled, drawn, reserved, size_of, sizing, triangles_of}
use Rattle.tessellator.specs.State.{MeshState, with_vertices, with_triangles, vertex_room, index_room}
use Rattle.ecolor.specs.Vertices.{is_default}
use Rattle.tessellator.specs.declared.fault.Appended.{Appended}
use Rattle.tessellator.specs.declared.fault.FigureFault.{FigureFault}
use Rattle.tessellator.proofs.Growth.{length-raised}
use Rattle.tessellator.proofs.Triples.{length-flat}

added : (figure : Figure) (p : Held PathPoint) (m : MeshState) → length figure.points ≡ length p.used → Added (size_of figure) p m (drawn figure p m).path (drawn figure p m).mesh
unfolding with_vertices with_triangles
added figure p m same = record {
  vertices = take_at m.vertices figure.vertices _ refl;
  vertex_count = length-append m.vertices figure.vertices;
  unused_vertices = refl;
  indices = take_at m.indices _ _ refl;
  index_count = length-append m.indices _ ∙ ap (λ n. length m.indices + n) (length-flat _ ∙ ap (λ n. 3 * n) (length-raised (length m.vertices) (triangles_of figure)));
  unused_indices = refl;
  texture = refl;
  point_count = same;
  unused_points = refl;
}

settled_grows : (why : Result (Unit {0}) FigureFault) (figure : Figure) (p : Held PathPoint) (m : MeshState) → length figure.points ≡ length p.used →
    Grows (settled why figure p m).answer p m (settled why figure p m).path (settled why figure p m).mesh
settled_grows (Ok t) figure p m same = added figure p m same
settled_grows (Err fault) figure p m same = (refl, refl)

pub outcome_grows : (allowed : Bool) (figure : Figure) (p : Held PathPoint) (m : MeshState) → length figure.points ≡ length p.used →
    Grows (outcome allowed figure p m).answer p m (outcome allowed figure p m).path (outcome allowed figure p m).mesh
outcome_grows true figure p m same = settled_grows (reserved (size_of figure) m) figure p m same
outcome_grows false figure p m same = (refl, refl)

settled_same : (why : Result (Unit {0}) FigureFault) (figure : Figure) (p : Held PathPoint) (m : MeshState) (size : Appended) → (settled why figure p m).answer ≡ accepted size → accepted (size_of figure) ≡ accepted size
settled_same (Ok t) figure p m size e = e
settled_same (Err fault) figure p m size e = absurd (let z : ◌≡◌ {A = ℕ} 0 1 = cc in omega arith)

no_refusal : (size : Appended) (m : MeshState) → is_default m.texture ≡ true → size.vertices ≤ vertex_room m → size.indices ≤ index_room m → reserved size m ≡ Ok tt
no_refusal size m default v i =
    cond-true _ _ _ (or_right (eqb size.vertices 0) _ default) ∙ cond-true _ _ _ (le-leb size.vertices (vertex_room m) v) ∙ cond-true _ _ _ (le-leb size.indices (index_room m) i)

pub outcome_sized : (allowed : Bool) (figure : Figure) (p : Held PathPoint) (m : MeshState) → Sized (outcome allowed figure p m).answer (sizing allowed figure) m
outcome_sized true figure p m = record {
  same = settled_same (reserved (size_of figure) m) figure p m;
  enough = λ size e default v i.
      let is : size_of figure ≡ size = cc in
      ap (λ why. (settled why figure p m).answer) (ap (λ s. reserved s m) is ∙ no_refusal size m default v i) ∙ e;
}
outcome_sized false figure p m = record {
  same = λ size e. absurd (let z : ◌≡◌ {A = ℕ} 0 1 = cc in omega arith);
  enough = λ size e default v i. e;
}
