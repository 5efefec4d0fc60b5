-- The refusals of drawing by their numbers.
use Rattle.std.specs.Prelude.{ℕ, [], Ok, Err, Result}
use Rattle.emath.specs.Answers.{Answer, accepted, refused}
use Rattle.tessellator.specs.declared.fault.FigureFault.{FigureFault}
use Rattle.tessellator.specs.declared.fault.FigureFault.TheVariants.{OutOfLimits, TooFewPoints, NoVertex, OtherTexture, NoVertexSpace, NoIndexSpace}

abbrev pub number_of : FigureFault → ℕ
number_of TooFewPoints = 1
number_of OutOfLimits = 2
number_of NoVertexSpace = 4
number_of NoIndexSpace = 5
number_of OtherTexture = 6
number_of NoVertex = 7

abbrev pub told : {A : Type 0} → Result A FigureFault → Answer A
told (Ok value) = accepted value
told (Err fault) = refused (number_of fault) []
