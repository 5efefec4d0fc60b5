-- The figures of fills.
use Rattle.std.specs.Prelude.{ℕ, Bool, if◌then◌else◌, ◌&&◌, ◌||◌, List, [], ◌∷◌, map, length, from_bits, nat_lt, Float}
use Rattle.std.specs.Float.{binary32}
use Rattle.std.specs.Float.Ieee.{mul, lt}
use Rattle.emath.specs.Limits.{all_places, is_distance}
use Rattle.emath.specs.Plane as plane
use Rattle.emath.specs.declared.plane.Pos2.{Pos2}
use Rattle.path.specs.Turns.{turned}
use Rattle.path.specs.declared.point.PathPoint.{PathPoint}
use Rattle.path.specs.declared.point.Side.TheVariants.{Outward, Along, Inward}
use Rattle.ecolor.specs.Colors.{is_transparent, transparent}
use Rattle.ecolor.specs.declared.color.Color32.{Color32}
use Rattle.ecolor.specs.declared.vertex.Vertex.{Vertex}
use Rattle.tessellator.specs.Brushes.{plain, textured}
use Rattle.tessellator.specs.Outcome.{Figure, nothing, shaped}
use Rattle.tessellator.specs.Rows.{row_vertices}
use Rattle.tessellator.specs.declared.kind.Kind.{Kind}
use Rattle.tessellator.specs.declared.kind.Kind.TheVariants.{Nothing, HardFill, FeatheredFill}
use Rattle.tessellator.specs.declared.row.Paint.{Paint}
use Rattle.tessellator.specs.declared.row.Paint.TheVariants.{Flat}
use Rattle.tessellator.specs.declared.row.Row.{Row}

-- ---- the rows beside the path

abbrev pub half : Float → Float
half x = mul binary32 (from_bits binary32 0x3F00_0000) x

abbrev pub hard_fill_rows : Color32 → List Row
hard_fill_rows color = record { side = Along; paint = Flat color } ∷ []

abbrev pub feathered_fill_rows : Float → Color32 → List Row
feathered_fill_rows feathering color =
    record { side = Inward (half feathering); paint = Flat color }
    ∷ record { side = Outward (half feathering); paint = Flat transparent } ∷ []

-- ---- the figures, for whatever makes their vertices

-- a transparent fill and one of fewer than three points append nothing
abbrev pub is_unfilled : Color32 → ℕ → Bool
is_unfilled color n = is_transparent color || nat_lt n 3

abbrev pub fill_kind : Float → Color32 → ℕ → Kind
fill_kind feathering color n = if is_unfilled color n then Nothing else if lt plane.zero feathering then FeatheredFill else HardFill

-- a feathered fill is of points that run clockwise
abbrev pub filled_with : (Paint → Pos2 → Vertex) → Float → Color32 → List PathPoint → Figure
filled_with brush feathering color points =
    if is_unfilled color (length points) then nothing points
    else if lt plane.zero feathering then shaped FeatheredFill (turned points) (row_vertices brush (feathered_fill_rows feathering color) (turned points))
    else shaped HardFill points (row_vertices brush (hard_fill_rows color) points)

abbrev pub fill_figure : Float → Color32 → List PathPoint → Figure
fill_figure feathering color points = filled_with plain feathering color points

abbrev pub textured_figure : Float → Color32 → (Pos2 → Pos2) → List PathPoint → Figure
textured_figure feathering color rule points = filled_with (textured rule) feathering color points

-- ---- what is allowed

abbrev pub are_places : List PathPoint → Bool
are_places points = all_places (map (λ p. p.pos) points)

abbrev pub fill_allowed : Float → List PathPoint → Bool
fill_allowed feathering points = is_distance feathering && are_places points
