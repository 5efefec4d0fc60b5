-- Runs written as parts, one after the other.
use Rattle.std.proofs.Common.{◌≡◌, ℕ, suc, ◌+◌, ◌-◌, ◌*◌, ◌<◌, ◌≤◌, List, [], ◌∷◌, ◌++◌, map, length, get_or, set, sym, refl, ap, ◌∙◌, arith}
use borrow.Rule.Slice.PartMut.{put_mid}
use Rattle.std.specs.List.{between}
use Rattle.std.proofs.lemmas.List.{append-nil, drop_all, length-append, length-map, length-take, length-drop, nil_from_length}
use Rattle.tessellator.specs.Triangles.{Triangle, tri, flat}
use Rattle.ecolor.specs.declared.vertex.TextureId.{TextureId}
use Rattle.cutting.specs.Cutting.{cut, span, joined, Legal}
use Rattle.cutting.specs.Outcome.{on_front}
use Rattle.cutting.specs.Parts.{part, least, less, lowered, parts_from, Within}
use Rattle.cutting.specs.Runs.{span_of_run, with_span}
use Rattle.cutting.specs.Spans.{width}
use Rattle.cutting.specs.declared.part.Part.{Part}
use Rattle.cutting.specs.declared.span.Span.{Span}
use Rattle.cutting.proofs.Cuts.{joined_cut}
use Rattle.cutting.proofs.Running.{run_within}
use Rattle.cutting.proofs.Writing.{Writing, reached, part_written, one_written}
use Rattle.tessellator.proofs.Triples.{length-flat}

pub length-parts : (first : ℕ) (texture : TextureId) (runs : List (List Triangle)) → length (parts_from first texture runs) ≡ length runs
length-parts first texture [] = refl
length-parts first texture (run ∷ runs) = ap suc (length-parts (first + 3 * length run) texture runs)

pub length-lowered : (runs : List (List Triangle)) → length (lowered runs) ≡ 3 * length (joined runs)
length-lowered [] = refl
length-lowered (run ∷ runs) =
    let a = length-append (less (least run) (flat run)) (lowered runs) in
    let b = length-map (flat run) (λ i. i - least run) in
    omega (arith, a, b, length-flat run, length-append run (joined runs), length-lowered runs)

full_front : {X : Type 0} (xs memory : List X) → length xs ≡ length memory → on_front xs memory ≡ xs
full_front xs memory e = ap (λ l. xs ++ l) (drop_all (length xs) memory (omega arith)) ∙ append-nil xs

least_is : (run : List Triangle) → least run ≡ (span_of_run run).least
least_is [] = refl
least_is (tri x y z ∷ ts) = refl

width_is : (run : List Triangle) → 1 ≤ length run → span run ≡ width (span_of_run run)
width_is [] some = absurd (omega arith)
width_is (tri x y z ∷ ts) some = refl

-- 16 bits can name the indices of a legal run
pub run_named : (run : List Triangle) (s : Span) → s ≡ span_of_run run → Legal run → Within s.least (flat run)
run_named run s e (some, small) k h =
    let (a, b) = run_within run k h in
    let low : s.least ≡ least run = ap (λ x. x.least) e ∙ sym (least_is run) in
    (omega arith, omega arith)

-- the runs, of the runs with their spans
without_spans : (runs : List (List Triangle)) → map (λ (p : Span × List Triangle). p.1) (map with_span runs) ≡ runs
without_spans [] = refl
without_spans (run ∷ runs) = ap (λ l. run ∷ l) (without_spans runs)

pub first_of_runs : (runs others : List (List Triangle)) (s : Span) (run : List Triangle) → map with_span runs ≡ (s, run) ∷ map with_span others →
    (runs ≡ run ∷ others) × (s ≡ span_of_run run)
first_of_runs runs others s run e =
    let a : runs ≡ run ∷ others = sym (without_spans runs) ∙ ap (map (λ p. p.1)) e ∙ ap (λ l. run ∷ l) (without_spans others) in
    (a, ap (λ (l : List (Span × List Triangle)). (get_or l 0 (s, run)).0) (sym e ∙ ap (map with_span) a))

-- A run is written behind those before it.
module _ (run : List Triangle) (rest : List (List Triangle)) (s : Span) (source : List ℕ) (n : ℕ) (e : s ≡ span_of_run run) (is : source ≡ flat run) where
  pub room : (ts : List Triangle) (before memory : List ℕ) → Writing (lowered (cut ts)) before n memory (lowered (run ∷ rest)) → n + length source ≤ 3 * length ts
  room ts before memory w =
      let all = ap length (joined_cut ts) in
      omega (arith, reached _ _ _ _ _ w, length-lowered (cut ts), all, length-append (less (least run) (flat run)) (lowered rest), length-map (flat run) (λ i. i - least run), ap length is)

  pub lowers_on : (all before memory written : List ℕ) → n + length source ≤ length memory →
      written ≡ on_front (less s.least source) (between n (n + length source) memory) → Writing all before n memory (lowered (run ∷ rest)) →
      Writing all before (n + length source) (put_mid n (n + length source - n) memory written) (lowered rest)
  lowers_on all before memory written fits same w =
      let low : s.least ≡ least run = ap (λ x. x.least) e ∙ sym (least_is run) in
      let whole : length (less s.least source) ≡ length (between n (n + length source) memory) = simp (length-map, length-take, length-drop) (omega arith) in
      let now : written ≡ less (least run) (flat run) = same ∙ full_front _ _ whole ∙ ap (less s.least) is ∙ ap (λ k. less k (flat run)) low in
      let long : n + length source - n ≡ length source = omega arith in
      let count : length (less (least run) (flat run)) ≡ length source = length-map (flat run) (λ i. i - least run) ∙ ap length (sym is) in
      rw (now, long) (part_written all before n (length source) memory (less (least run) (flat run)) (lowered rest) count w)

  pub lists_on : (texture : TextureId) (all before table : List Part) (i wide : ℕ) → i < length table → 1 ≤ length run → wide ≡ width s →
      Writing all before i table (parts_from n texture (run ∷ rest)) →
      Writing all before (i + 1) (set table i (part s.least wide n (length source) texture)) (parts_from (n + length source) texture rest)
  lists_on texture all before table i wide there some widths w =
      let count : 3 * length run ≡ length source = omega (arith, ap length is, length-flat run) in
      let low : least run ≡ s.least = least_is run ∙ sym (ap (λ x. x.least) e) in
      let across : span run ≡ wide = width_is run some ∙ sym (widths ∙ ap width e) in
      rw (low, across, count) at (one_written all before i table _ _ there w)

-- where all places of the table are written, no run is left
pub none_left : (texture : TextureId) (first i : ℕ) (all runs : List (List Triangle)) (before table : List Part) →
    Writing (parts_from 0 texture all) before i table (parts_from first texture runs) → length all ≤ i → runs ≡ []
none_left texture first i all runs before table w full =
    nil_from_length runs (omega (arith, reached _ _ _ _ _ w, length-parts 0 texture all, length-parts first texture runs))
