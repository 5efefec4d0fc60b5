-- Counting the runs of a cutting.
use Rattle.std.proofs.Common.{◌≡◌, ℕ, ◌+◌, ◌≤◌, true, false, List, [], ◌∷◌, length, get_or, refl, arith}
use Rattle.std.proofs.lemmas.Bool.{cond_both, cond-true, cond-false}
use Rattle.tessellator.specs.Triangles.{Triangle, tri}
use Rattle.cutting.specs.Cutting.{onto, go_on, cut}
use Rattle.cutting.specs.Spans.{span_of, both, narrow}
use Rattle.cutting.specs.declared.span.Span.{Span}

-- the runs that go on from a run with this span
abbrev pub runs_after : Span → List Triangle → List (List Triangle)
runs_after s ts = go_on s.least s.greatest ts

-- The steps of a loop: the first triangle of a run, one more that fits, the first that does not.
pub starts : (t : Triangle) (ts : List Triangle) → cut (t ∷ ts) ≡ onto t (runs_after (span_of t) ts)
starts (tri x y z) ts = refl

pub goes_on : (s : Span) (t : Triangle) (ts : List Triangle) → narrow (both s (span_of t)) ≡ true → runs_after s (t ∷ ts) ≡ onto t (runs_after (both s (span_of t)) ts)
goes_on s (tri x y z) ts h = cond-true _ _ _ h

pub stops : (s : Span) (t : Triangle) (ts : List Triangle) → narrow (both s (span_of t)) ≡ false → runs_after s (t ∷ ts) ≡ [] ∷ cut (t ∷ ts)
stops s (tri x y z) ts h = cond-false _ _ _ h

pub span_ordered : (t : Triangle) → (span_of t).least ≤ (span_of t).greatest
span_ordered (tri x y z) = omega arith

pub onto_some : (t : Triangle) (runs : List (List Triangle)) → 1 ≤ length (onto t runs)
onto_some t [] = omega arith
onto_some t (run ∷ runs) = omega arith

pub some_after : (s : Span) (ts : List Triangle) → 1 ≤ length (runs_after s ts)
some_after s [] = omega arith
some_after s (tri x y z ∷ ts) =
    cond_both (narrow (both s (span_of (tri x y z)))) _ _ (λ (runs : List (List Triangle)). 1 ≤ length runs)
    (λ h. onto_some (tri x y z) (runs_after (both s (span_of (tri x y z))) ts))
    (λ h. omega arith)

onto_length : (t : Triangle) (runs : List (List Triangle)) → 1 ≤ length runs → length (onto t runs) ≡ length runs
onto_length t [] h = absurd (omega arith)
onto_length t (run ∷ runs) h = refl

onto_after : (t : Triangle) (s : Span) (ts : List Triangle) → length (onto t (runs_after s ts)) ≡ length (runs_after s ts)
onto_after t s ts = onto_length t (runs_after s ts) (some_after s ts)

-- a triangle by its number
abbrev pub triangle : List Triangle → ℕ → Triangle
triangle ts k = get_or ts k (tri 0 0 0)

-- no more runs than triangles
few_after : (s : Span) (ts : List Triangle) → length (runs_after s ts) ≤ length ts + 1
few_after s [] = omega arith
few_after s (tri x y z ∷ ts) =
    cond_both (narrow (both s (span_of (tri x y z)))) _ _ (λ (runs : List (List Triangle)). length runs ≤ length (tri x y z ∷ ts) + 1)
    (λ h. omega (arith, onto_after (tri x y z) (both s (span_of (tri x y z))) ts, few_after (both s (span_of (tri x y z))) ts))
    (λ h. omega (arith, onto_after (tri x y z) (span_of (tri x y z)) ts, few_after (span_of (tri x y z)) ts))

pub few_runs : (ts : List Triangle) → length (cut ts) ≤ length ts
few_runs [] = omega arith
few_runs (tri x y z ∷ ts) = omega (arith, onto_after (tri x y z) (span_of (tri x y z)) ts, few_after (span_of (tri x y z)) ts)
