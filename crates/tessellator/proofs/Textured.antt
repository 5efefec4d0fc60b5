-- Textured fills.
use Rattle.std.proofs.Common.{◌≡◌, ◌≤◌, Bool, false, ◌||◌, length, Ok, Err, Result, sym, ap, ◌∙◌, arith}
use Rattle.std.proofs.lemmas.Bool.{cond-true, cond-false, le-ltb}
use Rattle.emath.specs.Answers.{accepted}
use Rattle.path.specs.Held.{Held}
use Rattle.path.specs.declared.point.PathPoint.{PathPoint}
use Rattle.ecolor.specs.Colors.{is_transparent}
use Rattle.ecolor.specs.Vertices.{same_texture}
use Rattle.ecolor.specs.declared.color.Color32.{Color32}
use Rattle.ecolor.specs.declared.vertex.TextureId.{TextureId}
use Rattle.tessellator.specs.Faults.{told}
use Rattle.tessellator.specs.Outcome.{Figure, Drawn, Fits, mesh_after, reserved_under, sizing, textured_settled, textured_outcome}
use Rattle.tessellator.specs.State.{MeshState, is_empty, with_texture, vertex_room, index_room}
use Rattle.tessellator.specs.declared.fault.Appended.{Appended}
use Rattle.tessellator.specs.declared.fault.FigureFault.{FigureFault}
use Rattle.tessellator.proofs.Drawn.{let_pass, space}

module _ (allowed : Bool) (color : Color32) (texture : TextureId) (figure : Figure) (p : Held PathPoint) (m : MeshState) (size : Appended) (passes : accepted size ≡ sizing allowed figure)
    (seen : is_transparent color ≡ false) (many : 3 ≤ length p.used) where
  settles : (why : Result (Unit {0}) FigureFault) → why ≡ reserved_under texture size m → textured_settled why texture figure p m ≡ textured_outcome allowed color texture figure p m
  settles why e =
      let pass = let_pass allowed figure size passes in
      ap (λ w. textured_settled w texture figure p m) (e ∙ ap (λ s. reserved_under texture s m) pass.1 ∙ sym (cond-false _ _ _ (le-ltb (length p.used) 3 many)))
      ∙ sym (cond-true _ _ _ pass.0 ∙ cond-false _ _ _ seen)

  pub refused_textured : (fault : FigureFault) → Err fault ≡ reserved_under texture size m → record { answer = told (Err fault); path = p; mesh = m } ≡ textured_outcome allowed color texture figure p m
  refused_textured fault e = settles (Err fault) e

  pub textured_fits : Ok tt ≡ reserved_under texture size m → Fits figure (with_texture m texture)
  unfolding with_texture vertex_room index_room
  textured_fits e =
      let pass = let_pass allowed figure size passes in
      let s = space size m (is_empty m || same_texture m.texture texture) e in
      record { vertices = omega (arith, s.0, ap (λ k. k.vertices) pass.1); indices = omega (arith, s.1, ap (λ k. k.indices) pass.1) }

  pub drawn_textured : (m₁ m' : MeshState) (p' : Held PathPoint) → m₁ ≡ with_texture m texture → Ok tt ≡ reserved_under texture size m → Drawn figure p m₁ p' m' →
      record { answer = told (Ok size); path = p'; mesh = m' } ≡ textured_outcome allowed color texture figure p m
  drawn_textured m₁ m' p' at e d =
      let pass = let_pass allowed figure size passes in
      (λ i. record { answer = accepted (pass.1 i); path = d.path i; mesh = (d.mesh ∙ ap (mesh_after figure) at) i }) ∙ settles (Ok tt) e
