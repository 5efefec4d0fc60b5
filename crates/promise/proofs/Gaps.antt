-- Bands by the number of gaps between their rows, which is one less than that of the rows.
use Rattle.std.proofs.Common.{ℕ, suc, ◌+◌, ◌-◌, List, ◌++◌}
use Rattle.tessellator.specs.Kinds.{each, cell}
use Rattle.tessellator.specs.Triangles.{Triangle}

-- from each of the first m points to the next
abbrev pub bands : ℕ → ℕ → List Triangle
bands k m = each m (λ i. each k (cell (suc k) i (i + 1)))

-- the same, after the band from the last point to the first
abbrev pub ring : ℕ → ℕ → List Triangle
ring k n = each k (cell (suc k) (n - 1) 0) ++ bands k (n - 1)
