-- The meaning of the colour rule of four zones.
use Rattle.std.specs.Prelude.{if◌then◌else◌, from_bits, Float}
use Rattle.std.specs.Float.{binary32}
use Rattle.std.specs.Float.Ieee.{sub, div, lt}
use Rattle.emath.specs.declared.plane.Pos2.{Pos2}
use Rattle.emath.specs.declared.rect.Rect.{Rect}
use Rattle.ecolor.specs.declared.color.Color32.{Color32}
use Rattle.ecolor.specs.declared.rule.Zones.{Zones}

-- how far from the left of the box to its right a place lies
abbrev pub across : Rect → Pos2 → Float
across box p = div binary32 (sub binary32 p.x box.min.x) (sub binary32 box.max.x box.min.x)

-- the first below 0.25, then below 0.5, below 0.75, else the last
abbrev pub zone_at : Zones → Float → Color32
zone_at zones t =
    if lt t (from_bits binary32 0x3E80_0000) then zones.first
    else if lt t (from_bits binary32 0x3F00_0000) then zones.second
    else if lt t (from_bits binary32 0x3F40_0000) then zones.third else zones.last

abbrev pub zone_colour : Zones → Rect → Pos2 → Color32
zone_colour zones box p = zone_at zones (across box p)
