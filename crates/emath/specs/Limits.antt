-- The limits on places and distances. A not-a-number lies within none.
use Rattle.std.specs.Prelude.{Bool, ◌&&◌, List, from_bits, Float}
use Rattle.std.specs.List.{list_all}
use Rattle.std.specs.Float.Ieee.{neg, le}
use Rattle.std.specs.Float.{float_is_finite, binary32}
use Rattle.emath.specs.declared.plane.Pos2.{Pos2}
use Rattle.emath.specs.declared.plane.Vec2.{Vec2}

-- 1,048,576
abbrev pub farthest : Float
farthest = from_bits binary32 0x4980_0000

-- 65,536
abbrev pub widest : Float
widest = from_bits binary32 0x4780_0000

-- within 1,048,576 of zero
abbrev pub is_coordinate : Float → Bool
is_coordinate x = le (neg farthest) x && le x farthest

abbrev pub is_place : Pos2 → Bool
is_place p = is_coordinate p.x && is_coordinate p.y

abbrev pub all_places : List Pos2 → Bool
all_places = list_all is_place

-- from 0 to 65,536
abbrev pub is_distance : Float → Bool
is_distance d = le (from_bits binary32 0) d && le d widest

abbrev pub is_vector : Vec2 → Bool
is_vector v = float_is_finite v.x && float_is_finite v.y
