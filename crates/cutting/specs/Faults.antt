-- The refusals of cutting by their numbers.
use Rattle.std.specs.Prelude.{ℕ, List, [], ◌∷◌, Ok, Err, Result}
use Rattle.emath.specs.Answers.{Answer, accepted, refused}
use Rattle.cutting.specs.declared.fault.CutFault.{CutFault}
use Rattle.cutting.specs.declared.fault.CutFault.TheVariants.{Span, NoIndexSpace, TableTooShort}

abbrev pub number_of : CutFault → ℕ
number_of (Span k) = 8
number_of TableTooShort = 9
number_of NoIndexSpace = 10

-- what a refusal names: the triangle that spans too much
abbrev pub values_of : CutFault → List ℕ
values_of (Span k) = k ∷ []
values_of TableTooShort = []
values_of NoIndexSpace = []

abbrev pub told : {A : Type 0} → Result A CutFault → Answer A
told (Ok value) = accepted value
told (Err fault) = refused (number_of fault) (values_of fault)
