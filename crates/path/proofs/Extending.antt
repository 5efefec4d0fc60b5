-- What a call answers, leaves and keeps to.
use Rattle.std.proofs.Common.{◌≡◌, ℕ, ◌≤◌, Bool, true, false, cond, leb, List, ◌++◌, length, Ok, Err, Result, sym, refl, ap, ◌∙◌, subst, arith, length-append}
use Rattle.std.proofs.lemmas.Bool.{cond-true, cond-false, le-leb, leb-true}
use Rattle.emath.specs.Answers.{Answer, accepted}
use Rattle.path.specs.Builders.{Change, unchanged, put_behind, added, replaced, reserved}
use Rattle.slice_vec.specs.Held as list
use Rattle.path.specs.Held.{Held, emptied, extended, room}
use Rattle.path.specs.Laws.{Same, Keeps}
use Rattle.path.specs.declared.fault.PathFault.{PathFault}
use Rattle.path.specs.declared.fault.PathFault.TheVariants.{NoSpace}

refused_for : (fits : Bool) (fault : PathFault) → ◌≡◌ {A = Result (Unit {0}) PathFault} (Err fault) (cond fits (Ok tt) (Err NoSpace)) → (fits ≡ false) × (fault ≡ NoSpace)
refused_for true fault e = absurd (let z : ◌≡◌ {A = ℕ} 0 1 = cc in omega arith)
refused_for false fault e = (refl, cc)

space_where : (n space : ℕ) (fits : Bool) → leb n space ≡ fits → ◌≡◌ {A = Result (Unit {0}) PathFault} (Ok tt) (cond fits (Ok tt) (Err NoSpace)) → n ≤ space
space_where n space true e ok = leb-true n space e
space_where n space false e ok = absurd (let z : ◌≡◌ {A = ℕ} 0 1 = cc in omega arith)

pub space_for : (n space : ℕ) → Ok tt ≡ reserved n space → n ≤ space
space_for n space ok = space_where n space (leb n space) refl ok

-- ---- what a call answers and leaves that is to add xs

module _ {X : Type 0} (from h : Held X) (what : Result (List X) PathFault) (xs : List X) (is : what ≡ Ok xs) where
  pub all_space : (after : Held X) → length xs ≤ room from → after ≡ extended from xs → record { answer = accepted tt; after = after } ≡ put_behind from h what
  all_space after fits grown =
      ap (λ k. record { answer = accepted tt; after = k }) grown
      ∙ sym (ap (put_behind from h) is ∙ cond-true _ _ _ (le-leb (length xs) (room from) fits))

  pub no_space : (n : ℕ) (fault : PathFault) → n ≡ length xs → Err fault ≡ reserved n (room from) → unchanged fault h ≡ put_behind from h what
  no_space n fault long e =
      let no = refused_for (leb n (room from)) fault e in
      ap (λ f. unchanged f h) no.1 ∙ sym (ap (put_behind from h) is ∙ cond-false _ _ _ (ap (λ k. leb k (room from)) (sym long) ∙ no.0))

-- the same where the list was emptied first
pub all_anew : {X : Type 0} (h empty after : Held X) (xs : List X) → empty ≡ emptied h → length xs ≤ room (emptied h) → after ≡ extended empty xs → record { answer = accepted tt; after = after } ≡ replaced (Ok xs) h
all_anew h empty after xs is fits grown = all_space (emptied h) h (Ok xs) xs refl after fits (grown ∙ ap (λ k. extended k xs) is)

-- ---- what it keeps to

-- Where a call begins: behind what is in use, or at the front. With more memory it begins behind the same, with no less space.
record Begins {X : Type 0} (from : Held X → Held X) (h k : Held X) : Type 0 where
  same : (from k).used ≡ (from h).used
  more : room (from h) ≤ room (from k)

module _ {X : Type 0} (from : Held X → Held X) (begins : (h k : Held X) → k.used ≡ h.used → length h.unused ≤ length k.unused → Begins from h k) (Kind : List X → Type 0) (what : Result (List X) PathFault) (xs : List X) (is : what ≡ Ok xs) (kind : Kind xs) (h : Held X) where
  same_added : (k : Held X) → length xs ≤ room (from h) → Begins from h k → Same (put_behind (from k) k what) (extended (from h) xs)
  unfolding extended
  same_added k fits b =
      let all = sym (all_space (from k) k what xs is (extended (from k) xs) (omega (arith, b.more)) refl) in
      record { answer = ap (λ l. l.answer) all; items = ap (λ l. l.after.used) all ∙ ap (λ us. us ++ xs) b.same }

  Kept : Change X → Type 0
  Kept l = Keeps Kind (λ k. put_behind (from k) k what) (from h) l.answer h l.after

  kept_where : (fits : Bool) → leb (length xs) (room (from h)) ≡ fits → Kept (cond fits (record { answer = accepted tt; after = extended (from h) xs }) (unchanged NoSpace h))
  unfolding Kept
  kept_where true e = record { extends = record { items = xs; kind = kind; all = refl }; elsewhere = λ k same more. same_added k (leb-true (length xs) (room (from h)) e) (begins h k same more) }
  kept_where false e = record { extends = refl; elsewhere = tt }

  kept : (answer : Answer (Unit {0})) (after : Held X) → record { answer = answer; after = after } ≡ put_behind (from h) h what → Keeps Kind (λ k. put_behind (from k) k what) (from h) answer h after
  unfolding Kept
  kept answer after e = subst Kept (sym (e ∙ ap (put_behind (from h) h) is)) (kept_where (leb (length xs) (room (from h))) refl)

module _ {X : Type 0} (h k : Held X) (same : k.used ≡ h.used) (more : length h.unused ≤ length k.unused) where
  behind_used : Begins (λ h. h) h k
  unfolding list.room
  behind_used = record { same = same; more = omega (arith, ap length same) }

  at_front : Begins emptied h k
  unfolding list.room
  at_front = record { same = refl; more = simp length-append (omega (arith, ap length same)) }

module _ {X : Type 0} (Kind : List X → Type 0) (what : Result (List X) PathFault) (xs : List X) (is : what ≡ Ok xs) (kind : Kind xs) (h : Held X) (answer : Answer (Unit {0})) (after : Held X) where
  pub added_keeps : record { answer = answer; after = after } ≡ added what h → Keeps Kind (added what) h answer h after
  added_keeps = kept (λ k. k) behind_used Kind what xs is kind h answer after

  pub replaced_keeps : record { answer = answer; after = after } ≡ replaced what h → Keeps Kind (replaced what) (emptied h) answer h after
  replaced_keeps = kept emptied at_front Kind what xs is kind h answer after

-- a builder that is accepted
pub record Accepted {X : Type 0} (Kind : List X → Type 0) (what : Result (List X) PathFault) (h after : Held X) : Type 0 where
  pub outcome : record { answer = accepted tt; after = after } ≡ added what h
  pub adds : Keeps Kind (added what) h (accepted tt) h after

pub accepts : {X : Type 0} (Kind : List X → Type 0) (what : Result (List X) PathFault) (xs : List X) (h after : Held X) → what ≡ Ok xs → Kind xs → length xs ≤ room h → after ≡ extended h xs → Accepted Kind what h after
accepts Kind what xs h after is kind fits grown =
    let outcome = all_space h h what xs is after fits grown in
    record { outcome = outcome; adds = added_keeps Kind what xs is kind h (accepted tt) after outcome }

-- a call that replaces what is in use, accepted or not
pub record Rebuilt {X : Type 0} (Kind : List X → Type 0) (what : Result (List X) PathFault) (h : Held X) (answer : Answer (Unit {0})) (after : Held X) : Type 0 where
  pub outcome : record { answer = answer; after = after } ≡ replaced what h
  pub replaces : Keeps Kind (replaced what) (emptied h) answer h after

pub rebuilds : {X : Type 0} (Kind : List X → Type 0) (what : Result (List X) PathFault) (xs : List X) {ys : List X} (h : Held X) (answer : Answer (Unit {0})) (after : Held X) → what ≡ Ok xs → Kind xs →
    record { answer = answer; after = after } ≡ replaced (Ok ys) h → xs ≡ ys → Rebuilt Kind what h answer after
rebuilds Kind what xs h answer after is kind e same =
    let outcome = e ∙ ap (λ zs. replaced (Ok zs) h) (sym same) ∙ ap (λ w. replaced w h) (sym is) in
    record { outcome = outcome; replaces = replaced_keeps Kind what xs is kind h answer after outcome }
