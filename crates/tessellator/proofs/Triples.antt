-- Triangles and the list of indices that names them.
use Rattle.std.proofs.Common.{◌≡◌, ℕ, zero, suc, ◌+◌, ◌-◌, ◌*◌, ◌/◌, ◌%◌, ◌<◌, ◌≤◌, List, [], ◌∷◌, ◌++◌, map, length, get_or, take, drop, sym, refl, ap, ◌∙◌, arith}
use Rattle.std.specs.List.{between}
use Rattle.std.specs.Simd.{first_chunks}
use Rattle.std.proofs.lemmas.List.{take_at, length-drop, drop_all, length-map, get_or-map}
use Rattle.tessellator.specs.Triangles.{Triangle, tri, flat, named, triples}

pub length-triples : (is : List ℕ) → length (triples is) ≡ length is / 3
length-triples [] = refl
length-triples (x ∷ []) = refl
length-triples (x ∷ y ∷ []) = refl
length-triples (x ∷ y ∷ z ∷ is) = omega (arith, length-triples is)

-- the triangles that the code reads three indices at a time
pub named_chunks : (is : List ℕ) → map named (first_chunks 3 (length is / 3) is) ≡ triples is
named_chunks [] = refl
named_chunks (x ∷ []) = refl
named_chunks (x ∷ y ∷ []) = refl
named_chunks (x ∷ y ∷ z ∷ is) =
    let more : length (x ∷ y ∷ z ∷ is) / 3 ≡ suc (length is / 3) = omega arith in
    rw more (ap (λ l. tri x y z ∷ l) (named_chunks is))

-- the triangle with the number k
pub triple_at : (is : List ℕ) (k : ℕ) → k < length is / 3 → get_or (triples is) k (tri 0 0 0) ≡ tri (get_or is (3 * k) 0) (get_or is (3 * k + 1) 0) (get_or is (3 * k + 2) 0)
triple_at [] k h = absurd (omega arith)
triple_at (x ∷ []) k h = absurd (omega arith)
triple_at (x ∷ y ∷ []) k h = absurd (omega arith)
triple_at (x ∷ y ∷ z ∷ is) zero h = refl
triple_at (x ∷ y ∷ z ∷ is) (suc k) h =
    let three : 3 * suc k ≡ suc (suc (suc (3 * k))) = omega arith in
    let four : suc (suc (suc (3 * k))) + 1 ≡ suc (suc (suc (3 * k + 1))) = omega arith in
    let five : suc (suc (suc (3 * k))) + 2 ≡ suc (suc (suc (3 * k + 2))) = omega arith in
    rw (three, four, five) (triple_at is k (omega arith))

-- the same, read three indices at a time
pub chunk_at : (is : List ℕ) (chunks : List (List ℕ)) (k : ℕ) (d : List ℕ) → chunks ≡ first_chunks 3 (length is / 3) is → k < length is / 3 → named (get_or chunks k d) ≡ tri (get_or is (3 * k) 0) (get_or is (3 * k + 1) 0) (get_or is (3 * k + 2) 0)
chunk_at is chunks k d e h =
    let all : map named chunks ≡ triples is = ap (map named) e ∙ named_chunks is in
    let long = ap length all ∙ length-triples is in
    let there : k < length chunks = omega (arith, length-map chunks named) in
    sym (get_or-map named chunks k d (tri 0 0 0) there) ∙ ap (λ ts. get_or ts k (tri 0 0 0)) all ∙ triple_at is k h

pub triples_drop : (is : List ℕ) (k : ℕ) → triples (drop (3 * k) is) ≡ drop k (triples is)
triples_drop is zero = refl
triples_drop [] (suc k) = ap triples (drop_all (3 * suc k) [] (omega arith))
triples_drop (x ∷ []) (suc k) = let three : 3 * suc k ≡ suc (suc (suc (3 * k))) = omega arith in rw three refl
triples_drop (x ∷ y ∷ []) (suc k) = let three : 3 * suc k ≡ suc (suc (suc (3 * k))) = omega arith in rw three refl
triples_drop (x ∷ y ∷ z ∷ is) (suc k) = let three : 3 * suc k ≡ suc (suc (suc (3 * k))) = omega arith in rw three (triples_drop is k)

-- the indices of the first triangles
pub take_flat : (is : List ℕ) (k : ℕ) → k ≤ length is / 3 → take (3 * k) is ≡ flat (take k (triples is))
take_flat is zero h = refl
take_flat [] (suc k) h = absurd (omega arith)
take_flat (x ∷ []) (suc k) h = absurd (omega arith)
take_flat (x ∷ y ∷ []) (suc k) h = absurd (omega arith)
take_flat (x ∷ y ∷ z ∷ is) (suc k) h =
    let three : 3 * suc k ≡ suc (suc (suc (3 * k))) = omega arith in
    rw three (ap (λ l. x ∷ y ∷ z ∷ l) (take_flat is k (omega arith)))

-- the indices of the triangles from a up to e
pub between_flat : (is : List ℕ) (a e : ℕ) (run : List Triangle) → a + length run ≡ e → drop a (triples is) ≡ run ++ drop e (triples is) → e ≤ length is / 3 → between (3 * a) (3 * e) is ≡ flat run
between_flat is a e run long parts h =
    let rest = drop (3 * a) is in
    let few : length run ≤ length rest / 3 = simp length-drop (omega arith) in
    let by : 3 * e - 3 * a ≡ 3 * length run = omega arith in
    ap (λ n. take n rest) by ∙ take_flat rest (length run) few
    ∙ ap flat (ap (take (length run)) (triples_drop is a ∙ parts) ∙ take_at run (drop e (triples is)) (length run) refl)

pub length-flat : (ts : List Triangle) → length (flat ts) ≡ 3 * length ts
length-flat [] = refl
length-flat (tri x y z ∷ ts) = omega (arith, length-flat ts)

pub flat_append : (ts us : List Triangle) → flat (ts ++ us) ≡ flat ts ++ flat us
flat_append [] us = refl
flat_append (tri x y z ∷ ts) us = ap (λ l. x ∷ y ∷ z ∷ l) (flat_append ts us)

pub flat_triples : (is : List ℕ) → length is % 3 ≡ 0 → flat (triples is) ≡ is
flat_triples [] h = refl
flat_triples (x ∷ []) h = absurd (omega arith)
flat_triples (x ∷ y ∷ []) h = absurd (omega arith)
flat_triples (x ∷ y ∷ z ∷ is) h = ap (λ l. x ∷ y ∷ z ∷ l) (flat_triples is (omega arith))
