-- What the stroke of an open line of one colour answers and leaves.
use Rattle.std.specs.Prelude.{Some, Float}
use Rattle.path.specs.Held.{Held}
use Rattle.path.specs.declared.point.PathPoint.{PathPoint}
use Rattle.tessellator.specs.Outcome.{Outcome}
use Rattle.tessellator.specs.State.{MeshState}
use Rattle.tessellator.specs.Strokes.{pen_of, stroke_outcome}
use Rattle.tessellator.specs.declared.stroke.Course.TheVariants.{Unjoined}
use Rattle.ecolor.specs.declared.rule.Solid.{Solid}
use Rattle.tessellator.specs.declared.stroke.PathStroke.{PathStroke}

unfoldable pub solid_outcome : Float → PathStroke Solid → Held PathPoint → MeshState → Outcome
solid_outcome feathering stroke path mesh = stroke_outcome (pen_of (λ s _ _. s.color) (λ s. Some s.color) feathering Unjoined stroke) path mesh
