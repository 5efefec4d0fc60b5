-- The meaning of the texture rule that stretches a box.
use Rattle.std.specs.Prelude.{Float}
use Rattle.std.specs.Float.{binary32}
use Rattle.std.specs.Float.Ieee.{add, sub, mul, div}
use Rattle.emath.specs.declared.plane.Pos2.{Pos2}
use Rattle.ecolor.specs.declared.texture.Stretch.{Stretch}

-- to-low + (p - from-low) / (from-high - from-low) · (to-high - to-low)
abbrev pub stretched : Float → Float → Float → Float → Float → Float
stretched p from_low from_high to_low to_high =
    add binary32 to_low (mul binary32 (div binary32 (sub binary32 p from_low) (sub binary32 from_high from_low)) (sub binary32 to_high to_low))

abbrev pub stretched_place : Stretch → Pos2 → Pos2
stretched_place s p = record {
  x = stretched p.x s.from.min.x s.from.max.x s.to.min.x s.to.max.x;
  y = stretched p.y s.from.min.y s.from.max.y s.to.min.y s.to.max.y;
}
