-- What a builder answers and leaves, in any memory: of paths and of lists of places.
use Rattle.std.specs.Prelude.{ℕ, if◌then◌else◌, ◌&&◌, List, [], ◌∷◌, map, length, Ok, Err, Result, nat_le, nat_lt, Float}
use Rattle.emath.specs.Answers.{Answer}
use Rattle.emath.specs.Limits.{is_place, all_places, is_distance, is_vector}
use Rattle.emath.specs.declared.plane.Pos2.{Pos2}
use Rattle.emath.specs.declared.plane.Vec2.{Vec2}
use Rattle.emath.specs.declared.rect.Rect.{Rect}
use Rattle.path.specs.Arcs.{quadrant_places, are_radii, clamped_radii, rounded}
use Rattle.circles.specs.Circles.{circle}
use Rattle.path.specs.Circling.{point_on}
use Rattle.path.specs.Faults.{told}
use Rattle.path.specs.Held.{Held, emptied, extended, room, held}
use Rattle.path.specs.Lines.{point, open_points, loop_points}
use Rattle.path.specs.declared.corner_radius.CornerRadiusF32.{CornerRadiusF32}
use Rattle.path.specs.declared.fault.PathFault.{PathFault}
use Rattle.path.specs.declared.fault.PathFault.TheVariants.{OutOfLimits, TooFewPoints, NoSpace}
use Rattle.path.specs.declared.lent.Lent.{Lent}
use Rattle.path.specs.declared.point.PathPoint.{PathPoint}

-- ---- in any memory

-- the answer, and the list afterwards
pub record Change (X : Type 0) : Type 0 where
  pub answer : Answer (Unit {0})
  pub after : Held X

abbrev pub change : {X : Type 0} → Result (Unit {0}) PathFault → Lent X → Change X
change r l = record { answer = told r; after = held l }

-- a refusal leaves the list as it was
abbrev pub unchanged : {X : Type 0} → PathFault → Held X → Change X
unchanged fault h = record { answer = told (Err fault); after = h }

-- What a call is to add stands behind `from`, if it fits there.
abbrev pub put_behind : {X : Type 0} → Held X → Held X → Result (List X) PathFault → Change X
put_behind from h (Ok xs) = if nat_le (length xs) (room from) then record { answer = told (Ok tt); after = extended from xs } else unchanged NoSpace h
put_behind from h (Err fault) = unchanged fault h

abbrev pub added : {X : Type 0} → Result (List X) PathFault → Held X → Change X
added what h = put_behind h h what

abbrev pub replaced : {X : Type 0} → Result (List X) PathFault → Held X → Change X
replaced what h = put_behind (emptied h) h what

-- whether there is space for n items
abbrev pub reserved : ℕ → ℕ → Result (Unit {0}) PathFault
reserved n space = if nat_le n space then Ok tt else Err NoSpace

-- ---- what the calls are to add, or why they are refused

abbrev pub one_point : Pos2 → Vec2 → Result (List PathPoint) PathFault
one_point pos normal = if is_place pos && is_vector normal then Ok (point pos normal ∷ []) else Err OutOfLimits

abbrev pub whole_circle : Pos2 → Float → Result (List PathPoint) PathFault
whole_circle center radius = if is_place center && is_distance radius then Ok (map (point_on center radius) (circle radius)) else Err OutOfLimits

-- a line or a loop over these places
abbrev pub over_places : List Pos2 → List PathPoint → Result (List PathPoint) PathFault
over_places places points = if all_places places then (if nat_lt (length places) 2 then Err TooFewPoints else Ok points) else Err OutOfLimits

abbrev pub open_line : List Pos2 → Result (List PathPoint) PathFault
open_line places = over_places places (open_points places)

abbrev pub line_loop : List Pos2 → Result (List PathPoint) PathFault
line_loop places = over_places places (loop_points places)

abbrev pub one_quadrant : Pos2 → Float → ℕ → Result (List Pos2) PathFault
one_quadrant center radius quadrant =
    if is_place center && is_distance radius && nat_le quadrant 3 then Ok (quadrant_places center radius quadrant) else Err OutOfLimits

abbrev pub rounded_rectangle : Rect → CornerRadiusF32 → Result (List Pos2) PathFault
rounded_rectangle rect radii =
    if is_place rect.min && is_place rect.max && are_radii radii then Ok (rounded rect (clamped_radii rect radii)) else Err OutOfLimits
