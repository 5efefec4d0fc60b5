-- A run of triangles as far as it goes.
use Rattle.std.proofs.Common.{◌≡◌, ℕ, zero, suc, ◌+◌, ◌<◌, ◌≤◌, min, max, true, false, List, [], ◌∷◌, ◌++◌, map, length, get_or, take, drop, sym, refl, ap, ◌∙◌, subst, add-one, arith}
use Rattle.std.proofs.lemmas.List.{drop_more, take_more, drop_all, append-nil, append_assoc, take-map, drop-map}
use Rattle.tessellator.specs.Triangles.{Triangle, tri, flat, named}
use Rattle.cutting.specs.Cutting.{lowest, highest, span, onto, cut}
use Rattle.cutting.specs.Parts.{least}
use Rattle.cutting.specs.Runs.{span_of_run, with_span}
use Rattle.cutting.specs.Spans.{span_of, both, narrow}
use Rattle.cutting.specs.declared.span.Span.{Span}
use Rattle.cutting.proofs.Counting.{runs_after, triangle, starts, goes_on, stops, some_after}

-- a run that was begun, in front of what it goes on with
abbrev pub prefixed : List Triangle → List (List Triangle) → List (List Triangle)
prefixed ts [] = ts ∷ []
prefixed ts (run ∷ runs) = (ts ++ run) ∷ runs

prefixed_onto : (ts : List Triangle) (t : Triangle) (runs : List (List Triangle)) → prefixed ts (onto t runs) ≡ prefixed (ts ++ t ∷ []) runs
prefixed_onto ts t [] = refl
prefixed_onto ts t (run ∷ runs) = ap (λ l. l ∷ runs) (sym (append_assoc ts (t ∷ []) run))

prefixed_none : (runs : List (List Triangle)) → 1 ≤ length runs → runs ≡ prefixed [] runs
prefixed_none [] h = absurd (omega arith)
prefixed_none (run ∷ runs) h = refl

lowest_push : (low : ℕ) (ts : List Triangle) (t : Triangle) → lowest low (ts ++ t ∷ []) ≡ min (lowest low ts) (span_of t).least
lowest_push low [] (tri x y z) = refl
lowest_push low (tri a b c ∷ ts) t = lowest_push (min low (min a (min b c))) ts t

highest_push : (high : ℕ) (ts : List Triangle) (t : Triangle) → highest high (ts ++ t ∷ []) ≡ max (highest high ts) (span_of t).greatest
highest_push high [] (tri x y z) = refl
highest_push high (tri a b c ∷ ts) t = highest_push (max high (max a (max b c))) ts t

pub high_up : (ts : List Triangle) (high : ℕ) → high ≤ highest high ts
high_up [] high = omega arith
high_up (tri x y z ∷ ts) high = omega (arith, high_up ts (max high (max x (max y z))))

pub low_down : (ts : List Triangle) (low : ℕ) → lowest low ts ≤ low
low_down [] low = omega arith
low_down (tri x y z ∷ ts) low = omega (arith, low_down ts (min low (min x (min y z))))

-- an index that was spanned stays so
still : (ts : List Triangle) (low high i : ℕ) → low ≤ i → i ≤ high → (lowest low ts ≤ i) × (i ≤ highest high ts)
still ts low high i a b = (omega (arith, low_down ts low), omega (arith, high_up ts high))

spanned : (ts : List Triangle) (low high k : ℕ) → k < length (flat ts) → (lowest low ts ≤ get_or (flat ts) k 0) × (get_or (flat ts) k 0 ≤ highest high ts)
spanned [] low high k h = absurd (omega arith)
spanned (tri x y z ∷ ts) low high zero h = still ts (min low (min x (min y z))) (max high (max x (max y z))) x (omega arith) (omega arith)
spanned (tri x y z ∷ ts) low high (suc zero) h = still ts (min low (min x (min y z))) (max high (max x (max y z))) y (omega arith) (omega arith)
spanned (tri x y z ∷ ts) low high (suc (suc zero)) h = still ts (min low (min x (min y z))) (max high (max x (max y z))) z (omega arith) (omega arith)
spanned (tri x y z ∷ ts) low high (suc (suc (suc k))) h = spanned ts (min low (min x (min y z))) (max high (max x (max y z))) k (omega arith)

-- the ends of a run, from its first index on
pub ends_from : (x y z : ℕ) (ts : List Triangle) →
    (lowest x (tri x y z ∷ ts) ≡ lowest (min x (min y z)) ts) × (highest x (tri x y z ∷ ts) ≡ highest (max x (max y z)) ts)
ends_from x y z ts = (ap (λ n. lowest n ts) (omega arith), ap (λ n. highest n ts) (omega arith))

-- the indices of a run lie from its least on, within its span
pub run_within : (run : List Triangle) (k : ℕ) → k < length (flat run) → (least run ≤ get_or (flat run) k 0) × (get_or (flat run) k 0 < least run + span run)
run_within [] k h = absurd (omega arith)
run_within (tri x y z ∷ ts) k h =
    let (a, b) = spanned (tri x y z ∷ ts) x x k h in
    let (low, high) = ends_from x y z ts in
    (omega arith, omega arith)

span_push : (t u : Triangle) (ts : List Triangle) → span_of_run (t ∷ (ts ++ u ∷ [])) ≡ both (span_of_run (t ∷ ts)) (span_of u)
span_push t u ts =
    let a = lowest_push (span_of t).least ts u in
    let b = highest_push (span_of t).greatest ts u in
    cc

-- The run that begins at the triangle t has come over the first n of those after it, and its span is s.
pub record Running (t : Triangle) (ts : List Triangle) (n : ℕ) (s : Span) : Type 0 where
  pub few : n ≤ length ts
  pub spans : s ≡ span_of_run (t ∷ take n ts)
  pub runs : runs_after (span_of t) ts ≡ prefixed (take n ts) (runs_after s (drop n ts))

pub run_begins : (t : Triangle) (ts : List Triangle) (s : Span) → s ≡ span_of t → Running t ts 0 s
run_begins t ts s e = subst (Running t ts 0) (sym e) (record { few = omega arith; spans = refl; runs = prefixed_none _ (some_after (span_of t) ts) })

module _ {t : Triangle} {ts : List Triangle} {n : ℕ} {s : Span} (r : Running t ts n s) where
  pub run_takes : (wider : Span) → n < length ts → wider ≡ both s (span_of (triangle ts n)) → narrow wider ≡ true → Running t ts (n + 1) wider
  run_takes wider h e fits =
      let u = triangle ts n in
      let rest = drop (n + 1) ts in
      let more = take_more ts n (tri 0 0 0) h in
      subst (Running t ts (n + 1)) (sym e)
      (record {
        few = omega arith;
        spans = ap (λ x. both x (span_of u)) r.spans ∙ sym (span_push t u (take n ts)) ∙ ap (λ l. span_of_run (t ∷ l)) (sym more);
        runs = r.runs ∙ ap (λ l. prefixed (take n ts) (runs_after s l)) (drop_more ts n (tri 0 0 0) h)
            ∙ ap (prefixed (take n ts)) (goes_on s u rest (sym (ap narrow e) ∙ fits))
            ∙ prefixed_onto (take n ts) u (runs_after (both s (span_of u)) rest)
            ∙ ap (λ l. prefixed l (runs_after (both s (span_of u)) rest)) (sym more);
      })

  -- the run ends with the triangles, or before one that it cannot take
  abbrev pub Over : Type 0
  Over = runs_after s (drop n ts) ≡ [] ∷ cut (drop n ts)

  pub runs_out : length ts ≤ n → Over
  runs_out h = let none = drop_all n ts h in rw none refl

  pub run_full : (wider : Span) → n < length ts → wider ≡ both s (span_of (triangle ts n)) → narrow wider ≡ false → Over
  run_full wider h e full = rw (drop_more ts n (tri 0 0 0) h) (stops s (triangle ts n) (drop (n + 1) ts) (sym (ap narrow e) ∙ full))

  pub run_cut : Over → cut (t ∷ ts) ≡ (t ∷ take n ts) ∷ cut (drop n ts)
  run_cut over =
      starts t ts ∙ ap (onto t) (r.runs ∙ ap (prefixed (take n ts)) over ∙ ap (λ l. l ∷ cut (drop n ts)) (append-nil (take n ts)))

-- the run as the code leaves it, in front of those after it
pub next_run : (is front back others : List (List ℕ)) (first : List ℕ) (n : ℕ) (s : Span) → is ≡ first ∷ others → (r : Running (named first) (map named others) n s) → Over r →
    front ≡ take (n + 1) is → back ≡ drop (n + 1) is → map with_span (cut (map named is)) ≡ (s, map named front) ∷ map with_span (cut (map named back))
next_run is front back others first n s e r over f b =
    let t = named first in
    let ts = map named others in
    let run : t ∷ take n ts ≡ map named front = rw (f, e, add-one n) (ap (λ l. t ∷ l) (take-map named n others)) in
    let rest : drop n ts ≡ map named back = rw (b, e, add-one n) (drop-map named n others) in
    ap (λ l. map with_span (cut (map named l))) e ∙ ap (map with_span) (run_cut r over)
    ∙ ap (λ x. (x, t ∷ take n ts) ∷ map with_span (cut (drop n ts))) (sym r.spans)
    ∙ ap (λ l. (s, l) ∷ map with_span (cut (drop n ts))) run
    ∙ ap (λ l. (s, map named front) ∷ map with_span (cut l)) rest
