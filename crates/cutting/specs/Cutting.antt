-- Runs of triangles that 16-bit indices can name, and the least number of them.
use Rattle.std.specs.Prelude.{◌≡◌, ℕ, ◌+◌, ◌-◌, ◌≤◌, min, max, if◌then◌else◌, List, [], ◌∷◌, ◌++◌, length, nat_le}
use Rattle.std.specs.List.{AllByRecursion}
use Rattle.tessellator.specs.Triangles.{Triangle, tri}

-- the least and greatest index of a run that has those of `low` and `high` already
abbrev pub lowest : ℕ → List Triangle → ℕ
lowest low [] = low
lowest low (tri x y z ∷ ts) = lowest (min low (min x (min y z))) ts

abbrev pub highest : ℕ → List Triangle → ℕ
highest high [] = high
highest high (tri x y z ∷ ts) = highest (max high (max x (max y z))) ts

-- greatest index minus least, plus one
abbrev pub span : List Triangle → ℕ
span [] = 0
span (tri x y z ∷ ts) = highest (max x (max y z)) ts - lowest (min x (min y z)) ts + 1

-- a legal run: one or more triangles, whose indices 16 bits can name
abbrev pub Legal : List Triangle → Type 0
Legal ts = (1 ≤ length ts) × (span ts ≤ 65535)

-- a triangle that a legal run can hold
abbrev pub Narrow : Triangle → Type 0
Narrow t = span (t ∷ []) ≤ 65535

abbrev pub joined : List (List Triangle) → List Triangle
joined [] = []
joined (run ∷ runs) = run ++ joined runs

-- a cutting in order: each triangle in one legal run
abbrev pub Cutting : List Triangle → List (List Triangle) → Type 0
Cutting ts runs = (joined runs ≡ ts) × AllByRecursion Legal runs

-- puts a triangle in front of the first run
abbrev pub onto : Triangle → List (List Triangle) → List (List Triangle)
onto t [] = (t ∷ []) ∷ []
onto t (run ∷ runs) = (t ∷ run) ∷ runs

-- The cutting that lets each run take triangles until the next would make its span too large: `low` and `high` are those of the run so far.
-- The first run of the answer goes on with that run.
abbrev pub go_on : ℕ → ℕ → List Triangle → List (List Triangle)
go_on low high [] = [] ∷ []
go_on low high (tri x y z ∷ ts) =
    let low' : ℕ = min x (min y z) in
    let high' : ℕ = max x (max y z) in
    if nat_le (max high high' - min low low' + 1) 65535
    then onto (tri x y z) (go_on (min low low') (max high high') ts)
    else [] ∷ onto (tri x y z) (go_on low' high' ts)

abbrev pub cut : List Triangle → List (List Triangle)
cut [] = []
cut (tri x y z ∷ ts) = onto (tri x y z) (go_on (min x (min y z)) (max x (max y z)) ts)
