-- Quadrants of circles, and rectangles with rounded corners.
use Rattle.std.specs.Prelude.{ℕ, zero, suc, ◌+◌, ◌-◌, ◌*◌, Bool, if◌then◌else◌, ◌&&◌, List, [], ◌∷◌, ◌++◌, map, length, take, drop, Ok, Err, Result, from_bits, Float}
use Rattle.std.specs.Float.Ieee.{add, sub, mul, le, eq}
use Rattle.std.specs.Float.{float_min, float_max, binary32}
use Rattle.emath.specs.Limits.{is_distance}
use Rattle.emath.specs.Plane as plane
use Rattle.emath.specs.declared.plane.Pos2.{Pos2}
use Rattle.emath.specs.declared.rect.Rect.{Rect}
use Rattle.circles.specs.Circles.{circle, quarter_steps}
use Rattle.path.specs.Circling.{place_on}
use Rattle.path.specs.declared.arc.Arc.{Arc}
use Rattle.path.specs.declared.arc.Corners.{Corners}
use Rattle.path.specs.declared.arc.Quadrant.{Quadrant}
use Rattle.path.specs.declared.arc.Quadrant.TheVariants.{SouthEast, SouthWest, NorthWest, NorthEast}
use Rattle.path.specs.declared.corner_radius.CornerRadiusF32.{CornerRadiusF32}
use Rattle.path.specs.declared.fault.PathFault.{PathFault}
use Rattle.path.specs.declared.fault.PathFault.TheVariants.{OutOfLimits}

-- ---- quadrants

-- The places of a quadrant, both ends among them: 0 south east, 1 south west, 2 north west, 3 north east. Without a radius only the centre.
abbrev pub quadrant_places : Pos2 → Float → ℕ → List Pos2
quadrant_places center radius quadrant =
    let steps = quarter_steps radius in
    if le radius plane.zero then center ∷ [] else map (place_on center radius) (take (steps + 1) (drop (quadrant * steps) (circle radius)))

abbrev pub quadrant_count : Float → ℕ
quadrant_count radius = if le radius plane.zero then 1 else quarter_steps radius + 1

abbrev pub but_last : List Pos2 → List Pos2
but_last ps = take (length ps - 1) ps

-- the quadrants by their numbers
abbrev pub quadrant_of : ℕ → Result Quadrant PathFault
quadrant_of zero = Ok SouthEast
quadrant_of (suc zero) = Ok SouthWest
quadrant_of (suc (suc zero)) = Ok NorthWest
quadrant_of (suc (suc (suc zero))) = Ok NorthEast
quadrant_of (suc (suc (suc (suc n)))) = Err OutOfLimits

abbrev pub number_of : Quadrant → ℕ
number_of SouthEast = 0
number_of SouthWest = 1
number_of NorthWest = 2
number_of NorthEast = 3

abbrev pub arc_places : Arc → List Pos2
arc_places a = let places = quadrant_places a.circle.center a.circle.radius (number_of a.quadrant) in if a.drops_last then but_last places else places

abbrev pub arc_count : Arc → ℕ
arc_count a = if a.drops_last then quadrant_count a.circle.radius - 1 else quadrant_count a.circle.radius

-- ---- radii

abbrev pub are_radii : CornerRadiusF32 → Bool
are_radii k = is_distance k.nw && is_distance k.ne && is_distance k.sw && is_distance k.se

abbrev pub no_radii : CornerRadiusF32 → Bool
no_radii k = eq k.nw plane.zero && eq k.ne plane.zero && eq k.sw plane.zero && eq k.se plane.zero

-- one half
abbrev half : Float
half = from_bits binary32 0x3F00_0000

-- at most half of the shorter side, and not below 0
abbrev pub clamped_radius : Rect → Float → Float
clamped_radius r k = float_max (float_min k (float_min (mul binary32 (plane.width r) half) (mul binary32 (plane.height r) half))) plane.zero

abbrev pub clamped_radii : Rect → CornerRadiusF32 → CornerRadiusF32
clamped_radii r k = record { nw = clamped_radius r k.nw; ne = clamped_radius r k.ne; sw = clamped_radius r k.sw; se = clamped_radius r k.se }

-- ---- rounded rectangles

-- Two corners that leave no straight edge on a side would share a place. The test leaves 2^-23 of the longer side for rounding.
abbrev pub meet : Rect → Float → Float → Float → Bool
meet r side a b = le side (add binary32 (add binary32 a b) (mul binary32 (from_bits binary32 0x3400_0000) (plane.max_elem r)))

abbrev pub corners_of : Rect → CornerRadiusF32 → Corners
corners_of r k =
    record {
      se = record { circle = record { center = record { x = sub binary32 r.max.x k.se; y = sub binary32 r.max.y k.se }; radius = k.se }; quadrant = SouthEast; drops_last = meet r (plane.width r) k.se k.sw };
      sw = record { circle = record { center = record { x = add binary32 r.min.x k.sw; y = sub binary32 r.max.y k.sw }; radius = k.sw }; quadrant = SouthWest; drops_last = meet r (plane.height r) k.sw k.nw };
      nw = record { circle = record { center = record { x = add binary32 r.min.x k.nw; y = add binary32 r.min.y k.nw }; radius = k.nw }; quadrant = NorthWest; drops_last = meet r (plane.width r) k.nw k.ne };
      ne = record { circle = record { center = record { x = sub binary32 r.max.x k.ne; y = add binary32 r.min.y k.ne }; radius = k.ne }; quadrant = NorthEast; drops_last = meet r (plane.height r) k.ne k.se };
    }

-- the four corners, from the north west on
abbrev pub square : Rect → List Pos2
square r = record { x = r.min.x; y = r.min.y } ∷ record { x = r.max.x; y = r.min.y } ∷ record { x = r.max.x; y = r.max.y } ∷ record { x = r.min.x; y = r.max.y } ∷ []

-- their arcs, from the south east on
abbrev pub joined : Corners → List Pos2
joined k = arc_places k.se ++ (arc_places k.sw ++ (arc_places k.nw ++ arc_places k.ne))

abbrev pub joined_count : Corners → ℕ
joined_count k = arc_count k.se + arc_count k.sw + arc_count k.nw + arc_count k.ne

abbrev pub rounded : Rect → CornerRadiusF32 → List Pos2
rounded r k = if no_radii k then square r else joined (corners_of r k)

-- Four places without radii. With one, those of the four quadrants, less one for each that drops its last.
abbrev pub rounded_count : Rect → CornerRadiusF32 → ℕ
rounded_count r k = if no_radii k then 4 else joined_count (corners_of r k)
