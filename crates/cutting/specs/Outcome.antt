-- What cutting a finished mesh answers and leaves.
use Rattle.std.specs.Prelude.{ℕ, ◌+◌, if◌then◌else◌, List, [], ◌∷◌, ◌++◌, length, drop, Some, None, Ok, Err, Option, Result, nat_le}
use Rattle.emath.specs.Answers.{Answer}
use Rattle.tessellator.specs.State.{MeshState}
use Rattle.tessellator.specs.Triangles.{Triangle, triples}
use Rattle.cutting.specs.Cutting.{cut, span}
use Rattle.cutting.specs.Faults.{told}
use Rattle.cutting.specs.Parts.{whole, parts_from, lowered}
use Rattle.cutting.specs.declared.fault.CutFault.{CutFault}
use Rattle.cutting.specs.declared.fault.CutFault.TheVariants.{Span, NoIndexSpace, TableTooShort}
use Rattle.cutting.specs.declared.part.Part.{Part}

pub record Outcome : Type 0 where
  pub answer : Answer ℕ
  pub indices : List ℕ
  pub parts : List Part

abbrev pub left : Result ℕ CutFault → List ℕ → List Part → Outcome
left r indices parts = record { answer = told r; indices = indices; parts = parts }

-- a list in the front places of a memory, the others as they were
abbrev pub on_front : {X : Type 0} → List X → List X → List X
on_front xs memory = xs ++ drop (length xs) memory

-- whether so many indices and parts have space
abbrev pub space_for : ℕ → ℕ → ℕ → ℕ → Result (Unit {0}) CutFault
space_for indices parts memory table = if nat_le indices memory then (if nat_le parts table then Ok tt else Err TableTooShort) else Err NoIndexSpace

-- A refusal leaves both memories as they were.
abbrev pub placed_if : Result (Unit {0}) CutFault → List ℕ → List Part → List ℕ → List Part → Outcome
placed_if (Ok t) is ps indices parts = left (Ok (length ps)) (on_front is indices) (on_front ps parts)
placed_if (Err fault) is ps indices parts = left (Err fault) indices parts

abbrev pub placed : List ℕ → List Part → List ℕ → List Part → Outcome
placed is ps indices parts = placed_if (space_for (length is) (length ps) (length indices) (length parts)) is ps indices parts

-- the first triangle that no part can hold, where the first of the list has the number k
abbrev pub too_wide : ℕ → List Triangle → Option ℕ
too_wide k [] = None
too_wide k (t ∷ ts) = if nat_le (span (t ∷ [])) 65535 then too_wide (k + 1) ts else Some k

-- how many runs, where no triangle is too wide
abbrev pub counted : Option ℕ → ℕ → Result ℕ CutFault
counted None n = Ok n
counted (Some k) n = Err (Span k)

abbrev pub run_count : List Triangle → Result ℕ CutFault
run_count ts = counted (too_wide 0 ts) (length (cut ts))

abbrev pub unless_wide : Option ℕ → Outcome → List ℕ → List Part → Outcome
unless_wide None o indices parts = o
unless_wide (Some k) o indices parts = left (Err (Span k)) indices parts

-- a mesh in runs
abbrev pub in_runs : MeshState → List ℕ → List Part → Outcome
in_runs m indices parts =
    let ts : List Triangle = triples m.indices in
    unless_wide (too_wide 0 ts) (placed (lowered (cut ts)) (parts_from 0 m.texture (cut ts)) indices parts) indices parts

abbrev pub in_one : MeshState → List ℕ → List Part → Outcome
in_one m indices parts = placed m.indices (whole m ∷ []) indices parts

-- up to 65,535 vertices are one part
abbrev pub cutting : MeshState → List ℕ → List Part → Outcome
cutting m indices parts = if nat_le (length m.vertices) 65535 then in_one m indices parts else in_runs m indices parts
