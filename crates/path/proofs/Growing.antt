-- A list in lent memory that grows: what a loop that writes one item after the other keeps.
use Rattle.std.proofs.Common.{◌≡◌, ℕ, ◌+◌, ◌<◌, ◌≤◌, List, [], ◌∷◌, ◌++◌, length, get_or, drop, sym, refl, ap, ◌∙◌, subst, append_assoc, arith, length-append, length-drop}
use Rattle.std.proofs.lemmas.List.{append-nil, drop-drop, drop_more, drop_all}
use Rattle.slice_vec.proofs.Writing.{all_pushed, used_few}
use Rattle.slice_vec.specs.Held as list
use Rattle.slice_vec.specs.Held.{Held, extended, pushed}
use Rattle.path.specs.Held.{Path, held, room}

module _ {X : Type 0} where
  pub extended_none : (h : Held X) → extended h [] ≡ h
  unfolding extended
  extended_none h = simp append-nil

  pub extended_then : (h : Held X) (xs ys : List X) → extended (extended h xs) ys ≡ extended h (xs ++ ys)
  unfolding extended
  extended_then h xs ys = simp (append_assoc, length-append, drop-drop)

  pub room_left : (h : Held X) (xs : List X) (k : ℕ) → length xs + k ≤ room h → k ≤ room (extended h xs)
  unfolding extended list.room
  room_left h xs k f = simp (length-append, length-drop) (omega arith)

  -- what fits is written whole
  pub put : (h next : Held X) (xs : List X) → length xs ≤ room h → next ≡ pushed 1048576 h xs → next ≡ extended h xs
  put h next xs fits e = e ∙ sym (all_pushed 1048576 h xs fits)

  -- one item after the other
  pub put_both : (h next last : Held X) (x y : X) → 2 ≤ room h → next ≡ pushed 1048576 h (x ∷ []) → last ≡ pushed 1048576 next (y ∷ []) → last ≡ extended h (x ∷ y ∷ [])
  put_both h next last x y fits e f =
      let first = put h next (x ∷ []) (omega arith) e in
      let left : 1 ≤ room next = rw first (room_left h (x ∷ []) 1 fits) in
      put next last (y ∷ []) left f ∙ ap (λ g. extended g (y ∷ [])) first ∙ extended_then h (x ∷ []) (y ∷ [])

  -- From start, all is to be written. The list is at, and rest is still to come.
  pub record Growing (start : Held X) (all : List X) (at : Held X) (rest : List X) : Type 0 where
    pub same : extended at rest ≡ extended start all
    pub fit : length rest ≤ room at

module _ {X : Type 0} where
  pub begins : (h : Held X) (all : List X) → length all ≤ room h → Growing h all h all
  begins h all f = record { same = refl; fit = f }

module _ {X : Type 0} {start : Held X} {all : List X} {at : Held X} where
  pub has_room : (xs rest : List X) → Growing start all at (xs ++ rest) → length xs ≤ room at
  has_room xs rest b = omega (arith, b.fit, length-append xs rest)

  pub one_more : (x : X) (rest : List X) → Growing start all at (x ∷ rest) → 1 ≤ room at
  one_more x rest b = omega (arith, b.fit)

  pub goes_on : (xs rest : List X) (next : Held X) → Growing start all at (xs ++ rest) → next ≡ extended at xs → Growing start all next rest
  goes_on xs rest next b e =
      let long = length-append xs rest in
      subst (λ h. Growing start all h rest) (sym e)
      (record { same = extended_then at xs rest ∙ b.same; fit = room_left at xs (length rest) (omega (arith, b.fit)) })

  -- the next item is written
  pub goes_on_by : (x : X) (rest : List X) (next : Held X) → Growing start all at (x ∷ rest) → next ≡ pushed 1048576 at (x ∷ []) → Growing start all next rest
  goes_on_by x rest next b e = goes_on (x ∷ []) rest next b (put at next (x ∷ []) (one_more x rest b) e)

  pub ends : Growing start all at [] → at ≡ extended start all
  ends b = sym (extended_none at) ∙ b.same

  -- where what is still to come is made of the rest of a list: its next item, and its end
  pub next_of : {Y : Type 0} (F : List Y → List X) (ys : List Y) (i : ℕ) (d : Y) → i < length ys → Growing start all at (F (drop i ys)) → Growing start all at (F (get_or ys i d ∷ drop (i + 1) ys))
  next_of F ys i d h b = subst (λ l. Growing start all at (F l)) (drop_more ys i d h) b

  pub last_of : {Y : Type 0} (F : List Y → List X) (ys : List Y) (i : ℕ) → length ys ≤ i → Growing start all at (F (drop i ys)) → Growing start all at (F [])
  last_of F ys i h b = subst (λ l. Growing start all at (F l)) (drop_all i ys h) b

pub few_used : (p : Path) → length (held p).used ≤ 1048576
few_used p = used_few p.list
