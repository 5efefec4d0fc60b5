-- The refusals of path builders by their numbers.
use Rattle.std.specs.Prelude.{ℕ, [], Ok, Err, Result}
use Rattle.emath.specs.Answers.{Answer, accepted, refused}
use Rattle.path.specs.declared.fault.PathFault.{PathFault}
use Rattle.path.specs.declared.fault.PathFault.TheVariants.{OutOfLimits, TooFewPoints, NoSpace}

abbrev pub number_of : PathFault → ℕ
number_of TooFewPoints = 1
number_of OutOfLimits = 2
number_of NoSpace = 3

abbrev pub told : {A : Type 0} → Result A PathFault → Answer A
told (Ok value) = accepted value
told (Err fault) = refused (number_of fault) []
