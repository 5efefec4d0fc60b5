-- The path points of open lines and of loops.
use Rattle.std.specs.Prelude.{ℕ, Bool, if◌then◌else◌, ◌&&◌, List, [], ◌∷◌, ◌++◌, from_bits}
use Rattle.std.specs.Float.{binary32}
use Rattle.std.specs.Float.Ieee.{lt, eq}
use Rattle.emath.specs.Plane as plane
use Rattle.emath.specs.declared.plane.Pos2.{Pos2}
use Rattle.emath.specs.declared.plane.Vec2.{Vec2}
use Rattle.path.specs.declared.point.PathPoint.{PathPoint}
use Rattle.path.specs.declared.line.Corner.{Corner}
use Rattle.path.specs.declared.line.Corner.TheVariants.{Mitre, Cut}
use Rattle.path.specs.declared.line.Turn.{Turn}

abbrev pub point : Pos2 → Vec2 → PathPoint
point p n = record { pos = p; normal = n }

abbrev pub is_zero : Vec2 → Bool
is_zero v = eq v.x plane.zero && eq v.y plane.zero

-- the normal of the edge from a to b
abbrev pub edge_normal : Pos2 → Pos2 → Vec2
edge_normal a b = plane.rot90 (plane.normalized (plane.from b a))

-- The normals of the two edges that meet at a corner. An edge of no length takes the other's.
abbrev pub before : Vec2 → Vec2 → Vec2
before n m = if is_zero n then m else n

abbrev pub after : Vec2 → Vec2 → Vec2
after n m = if is_zero n then m else if is_zero m then n else m

abbrev pub half_sum : Vec2 → Vec2 → Vec2
half_sum n m = plane.over (plane.plus n m) plane.two

abbrev pub scaled : Vec2 → Vec2
scaled n = plane.over n (plane.length_sq n)

-- a corner sharper than a right angle: length_sq below 0.5
abbrev pub is_sharp : Vec2 → Bool
is_sharp middle = lt (plane.length_sq middle) (from_bits binary32 0x3F00_0000)

-- such a corner is cut off
abbrev pub corner_at : Vec2 → Vec2 → Vec2 → Corner
corner_at middle n m =
    if is_sharp middle then Cut (scaled (half_sum n (plane.normalized middle))) (scaled (half_sum m (plane.normalized middle))) else Mitre (scaled middle)

abbrev pub corner_of : Vec2 → Vec2 → Corner
corner_of n m = corner_at (half_sum n m) n m

abbrev pub corner_points : Pos2 → Corner → List PathPoint
corner_points p (Mitre n) = point p n ∷ []
corner_points p (Cut n m) = point p n ∷ point p m ∷ []

abbrev pub corner_count : Corner → ℕ
corner_count (Mitre n) = 1
corner_count (Cut n m) = 2

-- a corner of a loop is never cut off
abbrev pub mitre_of : Vec2 → Vec2 → Vec2
mitre_of n m = scaled (half_sum n m)

-- What an edge with the normal m makes of the corner after one with the normal n, where `joins` says what two normals make.
abbrev pub turn_by : {J : Type 0} → (Vec2 → Vec2 → J) → Vec2 → Vec2 → Turn J
turn_by joins n m = record { joint = joins (before n m) (after n m); normal = after n m }

abbrev pub turn_of : Vec2 → Vec2 → Turn Corner
turn_of n m = turn_by corner_of n m

abbrev pub bend_of : Vec2 → Vec2 → Turn Vec2
bend_of n m = turn_by mitre_of n m

-- ---- open lines

-- The points of an open line from p on. The edge that reaches p has the normal `edge`, and n is the one that its corner takes for it.
abbrev pub open_corners : Vec2 → Vec2 → Pos2 → List Pos2 → List PathPoint
open_corners n edge p [] = point p edge ∷ []
open_corners n edge p (q ∷ qs) =
    let m = edge_normal p q in corner_points p (turn_of n m).joint ++ open_corners (turn_of n m).normal m q qs

abbrev pub open_points : List Pos2 → List PathPoint
open_points [] = []
open_points (p ∷ []) = []
open_points (p ∷ q ∷ qs) = let m = edge_normal p q in point p m ∷ open_corners m m q qs

-- ---- loops

-- The points of a loop from p on, which an edge with the normal n reaches. `closing` is the normal of the edge from the last place to the first.
abbrev pub loop_corners : Vec2 → Vec2 → Pos2 → List Pos2 → List PathPoint
loop_corners closing n p [] = point p (bend_of n closing).joint ∷ []
loop_corners closing n p (q ∷ qs) = let b = bend_of n (edge_normal p q) in point p b.joint ∷ loop_corners closing b.normal q qs

abbrev pub last_of : Pos2 → List Pos2 → Pos2
last_of p [] = p
last_of p (q ∷ qs) = last_of q qs

abbrev pub loop_points : List Pos2 → List PathPoint
loop_points [] = []
loop_points (p ∷ qs) = let closing = edge_normal (last_of p qs) p in loop_corners closing closing p qs
