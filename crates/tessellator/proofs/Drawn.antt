-- What a draw leaves, from the figure that it stands for.
use Rattle.std.proofs.Common.{◌≡◌, ℕ, ◌≤◌, Bool, true, false, cond, ◌||◌, eqb, leb, List, [], length, Ok, Err, Result, sym, refl, ap, ◌∙◌, subst, arith}
use Rattle.std.proofs.lemmas.Bool.{cond-true, leb-true}
use Rattle.emath.specs.Answers.{Answer, accepted}
use Rattle.path.specs.Held.{Held, rewritten}
use Rattle.path.specs.declared.point.PathPoint.{PathPoint}
use Rattle.ecolor.specs.Vertices.{is_default}
use Rattle.tessellator.specs.Faults.{told}
use Rattle.tessellator.specs.Outcome.{Figure, Drawn, Fits, Outcome, Grows, Sized, nothing, outcome, reserved, settled, size_of, sizing, space_reserved}
use Rattle.tessellator.specs.State.{MeshState, with_vertices, vertex_room, index_room}
use Rattle.tessellator.specs.declared.fault.Appended.{Appended}
use Rattle.tessellator.specs.declared.fault.FigureFault.{FigureFault}
use Rattle.tessellator.specs.declared.fault.FigureFault.TheVariants.{OtherTexture, NoVertexSpace, NoIndexSpace}
use Rattle.tessellator.proofs.Answered.{outcome_grows, outcome_sized}
use Rattle.tessellator.proofs.Growth.{vertices_none, triangles_none}

-- a figure of nothing, whose points are left in the path
pub nothing_drawn : (figure : Figure) (points : List PathPoint) (p p' : Held PathPoint) (m : MeshState) → figure ≡ nothing points → p' ≡ rewritten p points → Drawn figure p m p' m
nothing_drawn figure points p p' m e at =
    subst (λ (f : Figure). Drawn f p m p' m) (sym e)
    (record { path = at; mesh = vertices_none m ∙ triangles_none (length m.vertices) (with_vertices m []) })

-- a draw by another name
pub drawn_as : (figure other : Figure) (p p' : Held PathPoint) (m m' : MeshState) → figure ≡ other → Drawn other p m p' m' → Drawn figure p m p' m'
drawn_as figure other p p' m m' e d = subst (λ (f : Figure). Drawn f p m p' m') (sym e) d

-- what a draw keeps to, from what it answers and leaves
pub record Kept (allowed : Bool) (figure : Figure) (answer : Answer Appended) (p : Held PathPoint) (m : MeshState) (p' : Held PathPoint) (m' : MeshState) : Type 0 where
  pub outcome : record { answer = answer; path = p'; mesh = m' } ≡ outcome allowed figure p m
  pub grows : Grows answer p m p' m'
  pub sized : Sized answer (sizing allowed figure) m

pub kept : (allowed : Bool) (figure : Figure) (answer : Answer Appended) (p p' : Held PathPoint) (m m' : MeshState) → length figure.points ≡ length p.used → record { answer = answer; path = p'; mesh = m' } ≡ outcome allowed figure p m →
    Kept allowed figure answer p m p' m'
kept allowed figure answer p p' m m' same e = record {
  outcome = e;
  grows = subst (λ (o : Outcome). Grows o.answer p m o.path o.mesh) (sym e) (outcome_grows allowed figure p m same);
  sized = subst (λ (o : Outcome). Sized o.answer (sizing allowed figure) m) (sym e) (outcome_sized allowed figure p m);
}

-- ---- a draw, step by step: its sizing, then whether there is space, then the drawing

-- what the limits let pass
pub let_pass : (allowed : Bool) (figure : Figure) (size : Appended) → accepted size ≡ sizing allowed figure → (allowed ≡ true) × (size ≡ size_of figure)
let_pass true figure size e = (refl, cc)
let_pass false figure size e = absurd (let z : ◌≡◌ {A = ℕ} 0 1 = cc in omega arith)

stopped : (allowed : Bool) (figure : Figure) (p : Held PathPoint) (m : MeshState) (fault : FigureFault) → told {A = Appended} (Err fault) ≡ sizing allowed figure → record { answer = told (Err fault); path = p; mesh = m } ≡ outcome allowed figure p m
stopped true figure p m fault e = absurd (let z : ◌≡◌ {A = ℕ} 0 1 = cc in omega arith)
stopped false figure p m fault e = ap (λ a. record { answer = a; path = p; mesh = m }) e

module _ (size : Appended) (m : MeshState) where
  space_by : (vertices indices : Bool) → ◌≡◌ {A = Result (Unit {0}) FigureFault} (Ok tt) (cond vertices (cond indices (Ok tt) (Err NoIndexSpace)) (Err NoVertexSpace)) → (vertices ≡ true) × (indices ≡ true)
  space_by true true e = (refl, refl)
  space_by true false e = absurd (let z : ◌≡◌ {A = ℕ} 0 1 = cc in omega arith)
  space_by false indices e = absurd (let z : ◌≡◌ {A = ℕ} 0 1 = cc in omega arith)

  space_within : (texture : Bool) → Ok tt ≡ cond texture (space_reserved size m) (Err OtherTexture) → Ok tt ≡ space_reserved size m
  space_within true e = e
  space_within false e = absurd (let z : ◌≡◌ {A = ℕ} 0 1 = cc in omega arith)

  -- where a mesh refuses nothing, it has the space
  pub space : (texture : Bool) → Ok tt ≡ cond texture (space_reserved size m) (Err OtherTexture) → (size.vertices ≤ vertex_room m) × (size.indices ≤ index_room m)
  space texture e =
      let b = space_by (leb size.vertices (vertex_room m)) (leb size.indices (index_room m)) (space_within texture e) in
      (leb-true _ _ b.0, leb-true _ _ b.1)

module _ (allowed : Bool) (figure : Figure) (p : Held PathPoint) (m : MeshState) (same : length figure.points ≡ length p.used) where
  pub limits_kept : (fault : FigureFault) → told {A = Appended} (Err fault) ≡ sizing allowed figure → Kept allowed figure (told (Err fault)) p m p m
  limits_kept fault e = kept allowed figure (told (Err fault)) p p m m same (stopped allowed figure p m fault e)

  module _ (size : Appended) (passes : accepted size ≡ sizing allowed figure) where
    pub refusal_kept : (fault : FigureFault) → Err fault ≡ reserved size m → Kept allowed figure (told (Err fault)) p m p m
    refusal_kept fault why =
        let pass = let_pass allowed figure size passes in
        kept allowed figure (told (Err fault)) p p m m same
        (ap (λ r. settled r figure p m) (why ∙ ap (λ s. reserved s m) pass.1) ∙ sym (cond-true _ _ _ pass.0))

    pub space_fits : Ok tt ≡ reserved size m → Fits figure m
    space_fits why =
        let pass = let_pass allowed figure size passes in
        let s = space size m (eqb size.vertices 0 || is_default m.texture) why in
        record { vertices = omega (arith, s.0, ap (λ k. k.vertices) pass.1); indices = omega (arith, s.1, ap (λ k. k.indices) pass.1) }

    pub drawn_kept : (p' : Held PathPoint) (m' : MeshState) → Ok tt ≡ reserved size m → Drawn figure p m p' m' → Kept allowed figure (told (Ok size)) p m p' m'
    drawn_kept p' m' why d =
        let pass = let_pass allowed figure size passes in
        kept allowed figure (told (Ok size)) p p' m m' same
        ((λ i. record { answer = accepted (pass.1 i); path = d.path i; mesh = d.mesh i })
        ∙ ap (λ r. settled r figure p m) (why ∙ ap (λ s. reserved s m) pass.1) ∙ sym (cond-true _ _ _ pass.0))
