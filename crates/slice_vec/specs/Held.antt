-- A list in lent memory: what is in use, and the rest of the memory as it stands.
use Rattle.std.specs.Prelude.{ℕ, ◌-◌, min, if◌then◌else◌, List, [], ◌++◌, length, take, drop, nat_le}
use Rattle.slice_vec.specs.declared.SliceVec.{SliceVec}

pub record Held (X : Type 0) : Type 0 where
  pub used : List X
  pub unused : List X

-- the first n places of the memory are in use
abbrev pub held_in : {X : Type 0} → ℕ → List X → Held X
held_in n memory = record { used = take n memory; unused = drop n memory }

abbrev pub held : {X : Type 0} {limit : ℕ} → SliceVec X limit → Held X
held s = held_in s.len s.items.now

-- none of the memory is in use
abbrev pub empty_in : {X : Type 0} → List X → Held X
empty_in memory = record { used = []; unused = memory }

abbrev pub emptied : {X : Type 0} → Held X → Held X
emptied h = empty_in (h.used ++ h.unused)

-- more behind what is there
unfoldable pub extended : {X : Type 0} → Held X → List X → Held X
extended h xs = record { used = h.used ++ xs; unused = drop (length xs) h.unused }

-- in place of what is there, as many
abbrev pub rewritten : {X : Type 0} → Held X → List X → Held X
rewritten h xs = record { used = xs; unused = h.unused }

-- the space left, where so many items may be held
unfoldable pub room : {X : Type 0} → ℕ → Held X → ℕ
room limit h = min (limit - length h.used) (length h.unused)

-- more behind what is there, where there is space for all of it
unfoldable pub pushed : {X : Type 0} → ℕ → Held X → List X → Held X
pushed limit h xs = if nat_le (length xs) (room limit h) then extended h xs else h
