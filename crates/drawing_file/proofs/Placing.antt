-- Places, one after the other.
use Rattle.std.proofs.Common.{◌≡◌, ℕ, zero, suc, ◌+◌, ◌*◌, ◌/◌, ◌<◌, ◌≤◌, cond, ltb, ◌&&◌, List, [], ◌∷◌, ◌++◌, map, length, get_or, take, drop, set, refl, sym, ap, ◌∙◌, append_assoc, arith, inl, inr, le-ltb, lt-ltb}
use Rattle.std.specs.List.{range_with_len, list_all}
use Rattle.std.specs.Simd.{first_chunks}
use Rattle.std.proofs.lemmas.List.FromFn.{length-map-range_with_len}
use Rattle.std.proofs.lemmas.List.{drop_more, take_more, set_at, take_at, map-append, length-map, length-take-le, get_or-take, get_or-drop, drop-drop}
use Rattle.std.proofs.lemmas.Bool.{cases_lt}
use Rattle.emath.specs.Limits.{is_place, all_places}
use Rattle.emath.specs.declared.plane.Pos2.{Pos2}
use Rattle.path.specs.Builders.{Change, unchanged, added, open_line}
use Rattle.path.specs.Held.{Held, emptied}
use Rattle.path.specs.declared.point.PathPoint.{PathPoint}
use Rattle.path.specs.declared.fault.PathFault.{PathFault}
use Rattle.path.specs.declared.fault.PathFault.TheVariants.{OutOfLimits, TooFewPoints, NoSpace}
use Rattle.drawing_file.specs.Replaced.{Replaced, crowding, crowded, replaced}
use Rattle.drawing_file.specs.Values.{first_place, place_number, places_of}

-- the next one is written behind those that are
pub next_place : {A X : Type 0} (f : A → X) (xs : List A) (i : ℕ) (d : A) (memory out : List X) → i < length xs → i < length memory → out ≡ map f (take i xs) ++ drop i memory →
    set out i (f (get_or xs i d)) ≡ map f (take (i + 1) xs) ++ drop (i + 1) memory
next_place f xs i d memory out h there e =
    let x = get_or xs i d in
    ap (λ l. set l i (f x)) (e ∙ ap (λ l. map f (take i xs) ++ l) (drop_more memory i (f x) there))
    ∙ set_at (map f (take i xs)) _ (drop (i + 1) memory) (f x) i (length-map (take i xs) f ∙ length-take-le i xs (omega arith))
    ∙ sym (append_assoc (map f (take i xs)) (f x ∷ []) (drop (i + 1) memory))
    ∙ ap (λ l. l ++ drop (i + 1) memory) (sym (ap (map f) (take_more xs i d h) ∙ map-append f (take i xs) (x ∷ [])))

-- the eight bytes of a place
byte_is : (b : List ℕ) (k j n : ℕ) → j < 8 → n ≡ 8 * k + j → get_or (take 8 (drop (8 * k) b)) j 0 ≡ get_or b n 0
byte_is b k j n h e = get_or-take 8 (drop (8 * k) b) j 0 h ∙ get_or-drop (8 * k) b j 0 ∙ ap (λ i. get_or b i 0) (sym e)

chunk_is : (b : List ℕ) (k : ℕ) → first_place (take 8 (drop (8 * k) b)) ≡ place_number b k
chunk_is b k =
    let x0 = byte_is b k 0 (8 * k) (omega arith) (omega arith) in
    let x1 = byte_is b k 1 (8 * k + 1) (omega arith) (omega arith) in
    let x2 = byte_is b k 2 (8 * k + 2) (omega arith) (omega arith) in
    let x3 = byte_is b k 3 (8 * k + 3) (omega arith) (omega arith) in
    let y0 = byte_is b k 4 (8 * k + 4) (omega arith) (omega arith) in
    let y1 = byte_is b k 5 (8 * k + 4 + 1) (omega arith) (omega arith) in
    let y2 = byte_is b k 6 (8 * k + 4 + 2) (omega arith) (omega arith) in
    let y3 = byte_is b k 7 (8 * k + 4 + 3) (omega arith) (omega arith) in
    rw (x0, x1, x2, x3, y0, y1, y2, y3) refl

chunks_are : (b : List ℕ) (n k : ℕ) → map first_place (first_chunks 8 n (drop (8 * k) b)) ≡ map (place_number b) (range_with_len k n)
chunks_are b zero k = refl
chunks_are b (suc n) k =
    let rest : drop 8 (drop (8 * k) b) ≡ drop (8 * (k + 1)) b = drop-drop 8 (8 * k) b ∙ ap (λ i. drop i b) (omega arith) in
    ap (λ l. first_place (take 8 (drop (8 * k) b)) ∷ map first_place (first_chunks 8 n l)) rest ∙ (λ i. chunk_is b k i ∷ chunks_are b n (k + 1) i)

pub places_are : (b : List ℕ) → map first_place (first_chunks 8 (length b / 8) b) ≡ places_of b
places_are b = chunks_are b (length b / 8) 0

-- whether all lie within their limits
pub within_all : (ps : List (List ℕ)) → list_all (λ b. is_place (first_place b)) ps ≡ all_places (map first_place ps)
within_all [] = refl
within_all (p ∷ ps) = ap (λ v. is_place (first_place p) && v) (within_all ps)

few_bytes : (n : ℕ) → ltb (n / 8) 2 ≡ ltb n 16
few_bytes n =
    elim (cases_lt n 16) [
      | inl h ↦ lt-ltb (n / 8) 2 (omega arith) ∙ sym (lt-ltb n 16 h)
      | inr h ↦ le-ltb (n / 8) 2 (omega arith) ∙ sym (le-ltb n 16 h)
    ]

places_long : (b : List ℕ) → length (places_of b) ≡ length b / 8
places_long b = length-map-range_with_len (place_number b) 0 (length b / 8)

crowding_is : (b : List ℕ) → crowded (places_of b) ≡ crowding b
crowding_is b = ap (λ v. cond (all_places (places_of b)) (cond v TooFewPoints NoSpace) OutOfLimits) (ap (λ n. ltb n 2) (places_long b) ∙ few_bytes (length b))

module _ (b : List ℕ) (path cleared : Held PathPoint) (memory : List Pos2) (n : ℕ) (ps : List Pos2) (count : n ≡ length b / 8) (same : ps ≡ places_of b) (clear : cleared ≡ emptied path) where
  abbrev refusal : Replaced
  refusal = record { line = unchanged (crowding b) (emptied path); places = memory }

  abbrev added_line : Replaced
  added_line = record { line = added (open_line (places_of b)) (emptied path); places = places_of b ++ drop (length b / 8) memory }

  pub declined_where : (fault : PathFault) → length memory < n → fault ≡ crowded ps → record { line = unchanged fault cleared; places = memory } ≡ replaced b path memory
  declined_where fault short is =
      let why : fault ≡ crowding b = is ∙ ap crowded same ∙ crowding_is b in
      (λ i. record { line = unchanged (why i) (clear i); places = memory })
      ∙ ap (λ v. cond v refusal added_line) (sym (lt-ltb (length memory) (length b / 8) (omega arith)))

  -- what was read stands at the front
  pub replaced_where : (after : List Pos2) (l : Change PathPoint) → n ≤ length memory → after ≡ ps ++ drop n memory → l ≡ added (open_line (take n after)) cleared → record { line = l; places = after } ≡ replaced b path memory
  replaced_where after l fits read grown =
      let now : after ≡ places_of b ++ drop n memory = read ∙ ap (λ l. l ++ drop n memory) same in
      let front : take n after ≡ places_of b = ap (take n) now ∙ take_at (places_of b) (drop n memory) n (places_long b ∙ sym count) in
      let line : l ≡ added (open_line (places_of b)) (emptied path) = grown ∙ (λ i. added (open_line (front i)) (clear i)) in
      let there : after ≡ places_of b ++ drop (length b / 8) memory = now ∙ ap (λ k. places_of b ++ drop k memory) count in
      (λ i. record { line = line i; places = there i })
      ∙ ap (λ v. cond v refusal added_line) (sym (le-ltb (length memory) (length b / 8) (omega arith)))
