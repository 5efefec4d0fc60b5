-- Where the part of each run lies among the indices of all runs.
use Rattle.std.proofs.Common.{◌≡◌, ℕ, zero, suc, ◌+◌, ◌-◌, ◌*◌, ◌%◌, ◌<◌, ◌≤◌, min, max, List, [], ◌∷◌, ◌++◌, length, get_or, sym, refl, ap, ◌∙◌, subst, arith}
use Rattle.std.specs.List.{AllByRecursion}
use Rattle.std.proofs.lemmas.List.{length-append, length-map, get_or_append_left, get_or-append-add, get_or-map}
use Rattle.tessellator.specs.Triangles.{Triangle, tri, flat}
use Rattle.ecolor.specs.declared.vertex.TextureId.{TextureId}
use Rattle.cutting.specs.Cutting.{span, highest, joined, Legal}
use Rattle.cutting.specs.Parts.{part, least, less, lowered, parts_from}
use Rattle.cutting.specs.Promises.{InRow}
use Rattle.cutting.specs.declared.part.Part.{Part}
use Rattle.cutting.proofs.Running.{low_down, high_up, ends_from, run_within}
use Rattle.tessellator.proofs.Triples.{length-flat, flat_append}

-- every index of the list is below v
abbrev pub Below : ℕ → List ℕ → Type 0
Below v is = (k : ℕ) → k < length is → get_or is k 0 < v

-- Of runs whose first index has the number b, p is the part of one.
pub record Lies (b : ℕ) (texture : TextureId) (runs : List (List Triangle)) (p : Part) : Type 0 where
  pub textured : p.texture_id ≡ texture
  pub triangles : p.index_count % 3 ≡ 0
  pub small : AllByRecursion Legal runs → p.vertex_count ≤ 65535
  pub offset : ℕ
  pub first : p.first_index ≡ b + offset
  pub long : offset + p.index_count ≤ length (lowered runs)
  pub same : (j : ℕ) → j < p.index_count → p.first_vertex + get_or (lowered runs) (offset + j) 0 ≡ get_or (flat (joined runs)) (offset + j) 0
  pub within : (j : ℕ) → j < p.index_count → get_or (flat (joined runs)) (offset + j) 0 < p.first_vertex + p.vertex_count
  pub held : (v : ℕ) → Below v (flat (joined runs)) → p.first_vertex + p.vertex_count ≤ v

highest_below : (ts : List Triangle) (high v : ℕ) → high < v → Below v (flat ts) → highest high ts < v
highest_below [] high v h below = h
highest_below (tri x y z ∷ ts) high v h below =
    highest_below ts (max high (max x (max y z))) v (omega (arith, below 0 (omega arith), below 1 (omega arith), below 2 (omega arith)))
    (λ k l. below (suc (suc (suc k))) (omega arith))

run_held : (run : List Triangle) (v : ℕ) → Below v (flat run) → least run + span run ≤ v
run_held [] v below = omega arith
run_held (tri x y z ∷ ts) v below =
    let top = highest_below (tri x y z ∷ ts) x v (below 0 (omega arith)) below in
    let (low, high) = ends_from x y z ts in
    omega (arith, top, low_down ts (min x (min y z)), high_up ts (max x (max y z)))

below_left : (v : ℕ) (is js : List ℕ) → Below v (is ++ js) → Below v is
below_left v is js below k h = omega (arith, below k (omega (arith, length-append is js)), get_or_append_left is js 0 k h)

below_right : (v : ℕ) (is js : List ℕ) → Below v (is ++ js) → Below v js
below_right v is js below k h = omega (arith, below (length is + k) (omega (arith, length-append is js)), get_or-append-add is js k 0)

module _ (b : ℕ) (texture : TextureId) (run : List Triangle) (runs : List (List Triangle)) where
  abbrev low : List ℕ
  low = less (least run) (flat run)

  low_long : length low ≡ 3 * length run
  low_long = length-map (flat run) (λ i. i - least run) ∙ length-flat run

  -- the indices of the run, and those after it
  low_at : (j : ℕ) → j < 3 * length run → get_or (low ++ lowered runs) j 0 ≡ get_or (flat run) j 0 - least run
  low_at j h =
      get_or_append_left low (lowered runs) 0 j (omega (arith, low_long)) ∙ get_or-map (λ i. i - least run) (flat run) j 0 0 (omega (arith, length-flat run))

  flat_at : (j : ℕ) → j < 3 * length run → get_or (flat (run ++ joined runs)) j 0 ≡ get_or (flat run) j 0
  flat_at j h = rw (flat_append run (joined runs)) (get_or_append_left (flat run) (flat (joined runs)) 0 j (omega (arith, length-flat run)))

  low_past : (j : ℕ) → get_or (low ++ lowered runs) (3 * length run + j) 0 ≡ get_or (lowered runs) j 0
  low_past j = rw (sym low_long) (get_or-append-add low (lowered runs) j 0)

  flat_past : (j : ℕ) → get_or (flat (run ++ joined runs)) (3 * length run + j) 0 ≡ get_or (flat (joined runs)) j 0
  flat_past j = rw (flat_append run (joined runs), sym (length-flat run)) (get_or-append-add (flat run) (flat (joined runs)) j 0)

  first_lies : Lies b texture (run ∷ runs) (part (least run) (span run) b (3 * length run) texture)
  first_lies = record {
    textured = refl;
    triangles = omega arith;
    small = λ legal. legal.0.1;
    offset = 0;
    first = omega arith;
    long = omega (arith, low_long, length-append low (lowered runs));
    same = λ j h.
        let z : 0 + j ≡ j = omega arith in
        rw z (omega (arith, low_at j h, flat_at j h, (run_within run j (omega (arith, length-flat run))).0));
    within = λ j h.
        let z : 0 + j ≡ j = omega arith in
        rw z (omega (arith, flat_at j h, (run_within run j (omega (arith, length-flat run))).1));
    held = λ v below. run_held run v (below_left v (flat run) (flat (joined runs)) (subst (Below v) (flat_append run (joined runs)) below));
  }

  next_lies : (p : Part) → Lies (b + 3 * length run) texture runs p → Lies b texture (run ∷ runs) p
  next_lies p l = record {
    textured = l.textured;
    triangles = l.triangles;
    small = λ legal. l.small legal.1;
    offset = 3 * length run + l.offset;
    first = omega (arith, l.first);
    long = omega (arith, l.long, low_long, length-append low (lowered runs));
    same = λ j h.
        let z : 3 * length run + l.offset + j ≡ 3 * length run + (l.offset + j) = omega arith in
        rw z (omega (arith, l.same j h, low_past (l.offset + j), flat_past (l.offset + j)));
    within = λ j h.
        let z : 3 * length run + l.offset + j ≡ 3 * length run + (l.offset + j) = omega arith in
        rw z (omega (arith, l.within j h, flat_past (l.offset + j)));
    held = λ v below. l.held v (below_right v (flat run) (flat (joined runs)) (subst (Below v) (flat_append run (joined runs)) below));
  }

pub lies : (b : ℕ) (texture : TextureId) (runs : List (List Triangle)) (k : ℕ) (d : Part) → k < length runs → Lies b texture runs (get_or (parts_from b texture runs) k d)
lies b texture [] k d h = absurd (omega arith)
lies b texture (run ∷ runs) zero d h = first_lies b texture run runs
lies b texture (run ∷ runs) (suc k) d h = next_lies b texture run runs _ (lies (b + 3 * length run) texture runs k d (omega arith))

pub in_row : (b : ℕ) (texture : TextureId) (runs : List (List Triangle)) → InRow b (parts_from b texture runs) (b + length (flat (joined runs)))
in_row b texture [] = omega arith
in_row b texture (run ∷ runs) =
    let e : b + 3 * length run + length (flat (joined runs)) ≡ b + length (flat (run ++ joined runs)) =
    omega (arith, length-flat run, ap length (flat_append run (joined runs)), length-append (flat run) (flat (joined runs))) in
    (refl, subst (InRow (b + 3 * length run) (parts_from (b + 3 * length run) texture runs)) e (in_row (b + 3 * length run) texture runs))
