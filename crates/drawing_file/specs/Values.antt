-- The values in the bytes of a record.
use Rattle.std.specs.Prelude.{ℕ, ◌+◌, ◌*◌, ◌/◌, if◌then◌else◌, List, map, length, Ok, Err, Result, ◌==◌, nat_lt, from_bits, slice_index, Float}
use Rattle.std.specs.Float.{binary32}
use Rattle.std.specs.List.{range_with_len}
use Rattle.emath.specs.declared.plane.Pos2.{Pos2}
use Rattle.ecolor.specs.declared.color.Color32.{Color32}
use Rattle.ecolor.specs.declared.rule.Solid.{Solid}
use Rattle.tessellator.specs.declared.stroke.StrokeKind.{StrokeKind}
use Rattle.tessellator.specs.declared.stroke.StrokeKind.TheVariants.{Inside, Middle, Outside}
use Rattle.drawing_file.specs.Faults.{Cause, cause_of}
use Rattle.drawing_file.specs.declared.fault.FileFault.TheVariants.{UnknownKind}
use Rattle.drawing_file.specs.declared.decode.Paint.{Paint}

-- four bytes from i on, high byte first: every not-a-number is one value
abbrev pub fraction : List ℕ → ℕ → Float
fraction b i = from_bits binary32 (slice_index b i * 16777216 + slice_index b (i + 1) * 65536 + slice_index b (i + 2) * 256 + slice_index b (i + 3))

-- eight bytes from i on
abbrev pub place : List ℕ → ℕ → Pos2
place b i = record { x = fraction b i; y = fraction b (i + 4) }

abbrev pub place_number : List ℕ → ℕ → Pos2
place_number b k = place b (8 * k)

-- a place by its own eight bytes
abbrev pub first_place : List ℕ → Pos2
first_place b = place b 0

-- a line's places, one after the other
abbrev pub places_of : List ℕ → List Pos2
places_of b = map (place_number b) (range_with_len 0 (length b / 8))

abbrev pub color : List ℕ → ℕ → Color32
color b i = record { r = slice_index b i; g = slice_index b (i + 1); b = slice_index b (i + 2); a = slice_index b (i + 3) }

abbrev pub kind : ℕ → StrokeKind
kind byte = if byte == 0 then Inside else if byte == 1 then Middle else Outside

-- the kind of a byte that says one
abbrev pub known_kind : ℕ → Result StrokeKind Cause
known_kind byte = if nat_lt 2 byte then Err (cause_of UnknownKind) else Ok (kind byte)

abbrev pub solid : Color32 → Solid
solid c = record { color = c }

-- fill, stroke's colour, width, feathering, kind
abbrev pub paint_of : List ℕ → Paint
paint_of b = record {
  fill = color b 0;
  stroke = record { width = fraction b 8; color = solid (color b 4); kind = kind (slice_index b 16) };
  feathering = fraction b 12;
}
