-- A stroke that is refused leaves the mesh as it was.
use Rattle.std.proofs.Common.{◌≡◌, Bool, true, false, Some, Ok, Err, Result, refl}
use lib.Ieee.{Float}
use Rattle.emath.specs.Answers.{Answer, accepted, refused}
use Rattle.path.specs.Held.{Held}
use Rattle.path.specs.declared.point.PathPoint.{PathPoint}
use Rattle.tessellator.specs.Outcome.{Figure, outcome, settled, reserved, size_of}
use Rattle.tessellator.specs.State.{MeshState}
use Rattle.tessellator.specs.Strokes.{Pen, pen_of, stroke_allowed, stroke_figure}
use Rattle.tessellator.specs.declared.fault.Appended.{Appended}
use Rattle.tessellator.specs.declared.fault.FigureFault.{FigureFault}
use Rattle.ecolor.specs.declared.rule.Solid.{Solid}
use Rattle.tessellator.specs.declared.stroke.Course.TheVariants.{Unjoined}
use Rattle.tessellator.specs.declared.stroke.PathStroke.{PathStroke}
use Rattle.drawing_file.specs.Solids.{solid_outcome}

abbrev pub Spared : Answer Appended → MeshState → MeshState → Type 0
Spared (accepted size) before after = Unit {0}
Spared (refused number values) before after = after ≡ before

settled_spares : (why : Result (Unit {0}) FigureFault) (figure : Figure) (path : Held PathPoint) (mesh : MeshState) → Spared (settled why figure path mesh).answer mesh (settled why figure path mesh).mesh
settled_spares (Ok t) figure path mesh = tt
settled_spares (Err fault) figure path mesh = refl

outcome_spares : (allowed : Bool) (figure : Figure) (path : Held PathPoint) (mesh : MeshState) → Spared (outcome allowed figure path mesh).answer mesh (outcome allowed figure path mesh).mesh
outcome_spares true figure path mesh = settled_spares (reserved (size_of figure) mesh) figure path mesh
outcome_spares false figure path mesh = refl

pub refusal_spares : (feathering : Float) (stroke : PathStroke Solid) (path : Held PathPoint) (mesh : MeshState) →
    Spared (solid_outcome feathering stroke path mesh).answer mesh (solid_outcome feathering stroke path mesh).mesh
unfolding solid_outcome
refusal_spares feathering stroke path mesh =
    let solid : Pen = pen_of (λ s _ _. s.color) (λ s. Some s.color) feathering Unjoined stroke in
    outcome_spares (stroke_allowed solid path.used) (stroke_figure solid path.used) path mesh
