-- Colours of four bytes.
use Rattle.std.specs.Prelude.{ℕ, Bool, ◌&&◌, pos, ◌==◌, from_bits, Float}
use Rattle.std.specs.Float.{binary32}
use Rattle.std.specs.Float.Ieee.{of_int, to_unsigned, add, mul}
use Rattle.ecolor.specs.declared.color.Color32.{Color32}

abbrev pub transparent : Color32
transparent = record { r = 0; g = 0; b = 0; a = 0 }

abbrev pub is_transparent : Color32 → Bool
is_transparent c = c.r == 0 && (c.g == 0 && (c.b == 0 && c.a == 0))

-- ⌊byte · factor + 0.5⌋, from 0 to 255
abbrev pub faded_byte : Float → ℕ → ℕ
faded_byte factor byte = to_unsigned 8 (add binary32 (mul binary32 (of_int binary32 (pos byte)) factor) (from_bits binary32 0x3F00_0000))

abbrev pub faded : Float → Color32 → Color32
faded factor c = record { r = faded_byte factor c.r; g = faded_byte factor c.g; b = faded_byte factor c.b; a = faded_byte factor c.a }
