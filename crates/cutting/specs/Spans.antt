-- The least and greatest index of some triangles.
use Rattle.std.specs.Prelude.{ℕ, ◌+◌, ◌-◌, min, max, Bool, nat_le}
use Rattle.tessellator.specs.Triangles.{Triangle, tri}
use Rattle.cutting.specs.declared.span.Span.{Span}

abbrev pub span_of : Triangle → Span
span_of (tri x y z) = record { least = min x (min y z); greatest = max x (max y z) }

abbrev pub both : Span → Span → Span
both s t = record { least = min s.least t.least; greatest = max s.greatest t.greatest }

abbrev pub width : Span → ℕ
width s = s.greatest - s.least + 1

-- 16 bits can name the vertices from the least to the greatest index
abbrev pub narrow : Span → Bool
narrow s = nat_le (width s) 65535
