-- A list that is written to the front of a memory, part by part.
use Rattle.std.proofs.Common.{◌≡◌, ℕ, ◌+◌, ◌<◌, List, [], ◌∷◌, ◌++◌, length, take, drop, set, sym, refl, ap, ◌∙◌, subst, add-one, arith}
use borrow.Rule.Slice.PartMut.{put_mid}
use Rattle.std.proofs.lemmas.List.{append-nil, append_assoc, length-append, take_at, drop_at, drop-drop, set_split}
use Rattle.cutting.specs.Outcome.{on_front}

module _ {X : Type 0} where
  -- n of all are written, and rest is still to come
  pub record Writing (all before : List X) (n : ℕ) (memory rest : List X) : Type 0 where
    pub done : List X
    pub long : length done ≡ n
    pub whole : done ++ rest ≡ all
    pub now : memory ≡ on_front done before

  pub begins : (all before : List X) → Writing all before 0 before all
  begins all before = record { done = []; long = refl; whole = refl; now = refl }

  pub ends : (all before : List X) (n : ℕ) (memory : List X) → Writing all before n memory [] → memory ≡ on_front all before
  ends all before n memory w = w.now ∙ ap (λ l. on_front l before) (sym (append-nil w.done) ∙ w.whole)

  -- so long is what is written
  pub reached : (all before : List X) (n : ℕ) (memory rest : List X) → Writing all before n memory rest → n + length rest ≡ length all
  reached all before n memory rest w = omega (arith, w.long, ap length w.whole, length-append w.done rest)

  over : (done ys before : List X) (n k : ℕ) → length done ≡ n → length ys ≡ k → put_mid n k (on_front done before) ys ≡ on_front (done ++ ys) before
  over done ys before n k long e =
      let front = take_at done (drop (length done) before) n long in
      let back = drop_at done (drop (length done) before) n long in
      ap (λ l. l ++ (ys ++ drop k (drop n (on_front done before)))) front
      ∙ ap (λ l. done ++ (ys ++ drop k l)) back
      ∙ ap (λ l. done ++ (ys ++ l)) (drop-drop k (length done) before ∙ ap (λ i. drop i before) (omega (arith, length-append done ys)))
      ∙ sym (append_assoc done ys (drop (length (done ++ ys)) before))

  -- the next places are written at once
  pub part_written : (all before : List X) (n k : ℕ) (memory ys rest : List X) → length ys ≡ k → Writing all before n memory (ys ++ rest) → Writing all before (n + k) (put_mid n k memory ys) rest
  part_written all before n k memory ys rest e w = record {
    done = w.done ++ ys;
    long = length-append w.done ys ∙ omega (arith, w.long);
    whole = append_assoc w.done ys rest ∙ w.whole;
    now = ap (λ l. put_mid n k l ys) w.now ∙ over w.done ys before n k w.long e;
  }

  -- the next place is written
  pub one_written : (all before : List X) (n : ℕ) (memory : List X) (x : X) (rest : List X) → n < length memory → Writing all before n memory (x ∷ rest) → Writing all before (n + 1) (set memory n x) rest
  one_written all before n memory x rest h w =
      let split = set_split memory n x h ∙ ap (λ l. take n memory ++ x ∷ l) (ap (λ i. drop i memory) (sym (add-one n)) ∙ sym (drop-drop 1 n memory)) in
      subst (λ l. Writing all before (n + 1) l rest) (sym split) (part_written all before n 1 memory (x ∷ []) rest refl w)
