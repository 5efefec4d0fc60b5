-- The memory of a list, and what is written behind what is in use.
use Rattle.std.proofs.Common.{◌≡◌, ℕ, ◌+◌, ◌-◌, ◌<◌, ◌≤◌, min, List, [], ◌∷◌, ◌++◌, map, length, get_or, take, drop, set, sym, ap, ◌∙◌, append_assoc, arith, length-drop, length-take}
use borrow.Rule.Slice.PartMut.{put_mid}
use Rattle.std.proofs.lemmas.Bool.{cond-true, cond-false, le-leb, lt-leb}
use Rattle.std.proofs.lemmas.List.{drop-drop, drop_more, drop-set-lt, length-map, length-take-le, map_more, set_at, take_more_set, take-append-drop}
use Rattle.std.proofs.lemmas.Slice.{take-put_mid, drop-put_mid}
use Rattle.slice_vec.specs.Held.{Held, held, held_in, emptied, empty_in, extended, pushed, room}
use Rattle.slice_vec.specs.declared.SliceVec.{SliceVec}

module _ {X : Type 0} (limit n : ℕ) (memory : List X) where
  room_in_all : min (length memory) limit ≡ room limit (emptied (held_in n memory))
  unfolding room
  room_in_all = simp take-append-drop (omega arith)

  room_left_in : n ≤ length memory → room limit (emptied (held_in n memory)) - n ≡ room limit (held_in n memory)
  unfolding room
  room_left_in fit = simp (take-append-drop, length-take, length-drop) (omega arith)

module _ {X : Type 0} {limit : ℕ} (s : SliceVec X limit) where
  len_fits : (s.len ≤ length s.items.now) × (s.len ≤ limit)
  len_fits = let within = s.within in let counted = s.counted in (omega arith, omega arith)

  pub capacity_is : s.capacity ≡ room limit (emptied (held s))
  capacity_is = s.counted ∙ room_in_all limit s.len s.items.now

  pub space_is : s.capacity - s.len ≡ room limit (held s)
  space_is = ap (λ n. n - s.len) capacity_is ∙ room_left_in limit s.len s.items.now len_fits.0

  pub end_fits : (k : ℕ) → k ≤ room limit (held s) → (s.len + k ≤ length s.items.now) × ((s.len + k ≤ limit) × (s.len + k ≤ s.capacity))
  end_fits k fits =
      let within = s.within in
      let counted = s.counted in
      let space = space_is in (omega arith, (omega arith, omega arith))

  pub used_few : length (held s).used ≤ limit
  used_few = let fits = len_fits in simp length-take (omega arith)

module _ {X : Type 0} (n : ℕ) (memory : List X) where
  pub cleared : empty_in memory ≡ emptied (held_in n memory)
  cleared = ap empty_in (sym (take-append-drop n memory))

  -- the item just behind what is in use is written
  pub item_written : (x : X) → n < length memory → held_in (n + 1) (set memory n x) ≡ extended (held_in n memory) (x ∷ [])
  unfolding extended
  item_written x there = let past : n < n + 1 = omega arith in simp (take_more_set, drop-set-lt, drop-drop)

  -- all of xs are
  pub items_written : (k : ℕ) (xs ys : List X) → k ≡ length xs → ys ≡ xs → n + k ≤ length memory → held_in (n + k) (put_mid n (n + k - n) memory ys) ≡ extended (held_in n memory) xs
  unfolding extended
  items_written k xs ys many e fits =
      let long : length ys ≡ length xs = ap length e in
      let used = take-put_mid n (n + k - n) memory ys (n + k) (omega arith) (omega arith) ∙ ap (λ l. take n memory ++ l) e in
      let unused = drop-put_mid n (n + k - n) memory ys (n + k) (omega arith) (omega arith) (omega arith) ∙ sym (drop-drop k n memory) ∙ ap (λ j. drop j (drop n memory)) many in
      λ i. record { used = used i; unused = unused i }

module _ {X : Type 0} (limit : ℕ) (h : Held X) (xs : List X) where
  pub all_pushed : length xs ≤ room limit h → extended h xs ≡ pushed limit h xs
  unfolding pushed
  all_pushed fits = sym (cond-true _ _ _ (le-leb (length xs) (room limit h) fits))

  pub none_pushed : room limit h < length xs → h ≡ pushed limit h xs
  unfolding pushed
  none_pushed more = sym (cond-false _ _ _ (lt-leb (length xs) (room limit h) more))

-- what becomes of the next source is written in its place
pub next_written : {S X : Type 0} (f : S → X) (sources : List S) (memory out : List X) (i : ℕ) (d : S) (x : X) → i < length sources → length memory ≡ length sources →
    out ≡ map f (take i sources) ++ drop i memory → x ≡ f (get_or sources i d) → set out i x ≡ map f (take (i + 1) sources) ++ drop (i + 1) memory
next_written f sources memory out i d x h long e is =
    let before = length-map (take i sources) f ∙ length-take-le i sources (omega arith) in
    ap (λ l. set l i x) (e ∙ ap (λ l. map f (take i sources) ++ l) (drop_more memory i x (omega arith)))
    ∙ set_at (map f (take i sources)) _ (drop (i + 1) memory) x i before
    ∙ sym (append_assoc (map f (take i sources)) (x ∷ []) (drop (i + 1) memory))
    ∙ ap (λ y. (map f (take i sources) ++ y ∷ []) ++ drop (i + 1) memory) is
    ∙ ap (λ l. l ++ drop (i + 1) memory) (sym (map_more f sources i d h))
