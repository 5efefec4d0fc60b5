-- A line record replaces the path.
use Rattle.std.specs.Prelude.{ℕ, ◌/◌, if◌then◌else◌, List, ◌++◌, length, drop, Result, nat_lt}
use Rattle.emath.specs.Limits.{all_places}
use Rattle.emath.specs.declared.plane.Pos2.{Pos2}
use Rattle.path.specs.Builders.{Change, change, unchanged, added, open_line}
use Rattle.path.specs.Held.{Held, Path, emptied}
use Rattle.path.specs.declared.fault.PathFault.{PathFault}
use Rattle.path.specs.declared.fault.PathFault.TheVariants.{OutOfLimits, TooFewPoints, NoSpace}
use Rattle.path.specs.declared.point.PathPoint.{PathPoint}
use Rattle.drawing_file.specs.Values.{places_of}

-- what the path builder answers and leaves, and the memory for places
pub record Replaced : Type 0 where
  pub line : Change PathPoint
  pub places : List Pos2

abbrev pub remains : Result (Unit {0}) PathFault → Path → List Pos2 → Replaced
remains r path places = record { line = change r path; places = places }

-- a line with more places than the memory holds is refused, for the same reasons and in the same order as by the path
abbrev pub crowding : List ℕ → PathFault
crowding b = if all_places (places_of b) then (if nat_lt (length b) 16 then TooFewPoints else NoSpace) else OutOfLimits

-- the same, by the places
abbrev pub crowded : List Pos2 → PathFault
crowded ps = if all_places ps then (if nat_lt (length ps) 2 then TooFewPoints else NoSpace) else OutOfLimits

abbrev pub replaced : List ℕ → Held PathPoint → List Pos2 → Replaced
replaced b path memory =
    if nat_lt (length memory) (length b / 8) then record { line = unchanged (crowding b) (emptied path); places = memory }
    else record { line = added (open_line (places_of b)) (emptied path); places = places_of b ++ drop (length b / 8) memory }
