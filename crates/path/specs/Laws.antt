-- What every builder keeps to.
use Rattle.std.specs.Prelude.{◌≡◌, ℕ, ◌≤◌, List, [], ◌∷◌, map, length, Result}
use Rattle.emath.specs.Answers.{Answer, accepted, refused}
use Rattle.emath.specs.declared.plane.Pos2.{Pos2}
use Rattle.emath.specs.declared.plane.Vec2.{Vec2}
use Rattle.path.specs.Builders.{Change, added, replaced}
use Rattle.path.specs.Faults.{told}
use Rattle.path.specs.Held.{Held, emptied, extended, held}
use Rattle.path.specs.Lines.{point}
use Rattle.path.specs.declared.fault.PathFault.{PathFault}
use Rattle.path.specs.declared.lent.Lent.{Lent}
use Rattle.path.specs.declared.point.PathPoint.{PathPoint}

-- items of this kind, behind those of `from`
pub record Grown {X : Type 0} (Kind : List X → Type 0) (from after : Held X) : Type 0 where
  pub items : List X
  pub kind : Kind items
  pub all : after ≡ extended from items

-- Accepted, a call puts items of its kind behind `from`. Refused, it changes nothing.
abbrev pub GrowsBy : {X : Type 0} → (List X → Type 0) → Held X → Answer (Unit {0}) → Held X → Held X → Type 0
GrowsBy Kind from (accepted t) before after = Grown Kind from after
GrowsBy Kind from (refused number values) before after = after ≡ before

-- it is accepted and leaves these items
pub record Same {X : Type 0} (l : Change X) (after : Held X) : Type 0 where
  pub answer : l.answer ≡ accepted tt
  pub items : l.after.used ≡ after.used

-- Accepted in one memory, a call is accepted in any larger one with the same items in use, and leaves the same items there.
abbrev pub Elsewhere : {X : Type 0} → (Held X → Change X) → Answer (Unit {0}) → Held X → Held X → Type 0
Elsewhere {X = X} call (accepted t) before after = (h : Held X) → h.used ≡ before.used → length before.unused ≤ length h.unused → Same (call h) after
Elsewhere call (refused number values) before after = Unit {0}

pub record Keeps {X : Type 0} (Kind : List X → Type 0) (call : Held X → Change X) (from : Held X) (answer : Answer (Unit {0})) (before after : Held X) : Type 0 where
  pub extends : GrowsBy Kind from answer before after
  pub elsewhere : Elsewhere call answer before after

-- points that lie at these places, in order: at each one point, or two where a corner is cut off
pub data Along : List Pos2 → List PathPoint → Type 0 where
  done : Along [] []
  once : (p : Pos2) (n : Vec2) {places : List Pos2} {points : List PathPoint} → Along places points → Along (p ∷ places) (point p n ∷ points)
  twice : (p : Pos2) (n m : Vec2) {places : List Pos2} {points : List PathPoint} → Along places points → Along (p ∷ places) (point p n ∷ point p m ∷ points)

-- points that lie at these places, one at each
abbrev pub At : List Pos2 → List PathPoint → Type 0
At places points = map (λ p. p.pos) points ≡ places

-- so many items
abbrev pub Numbering : {X : Type 0} → ℕ → List X → Type 0
Numbering n items = length items ≡ n

-- the laws of a builder, and of a call that replaces what is in use
abbrev pub Adds : {X : Type 0} → (List X → Type 0) → Result (List X) PathFault → Result (Unit {0}) PathFault → Lent X → Lent X → Type 0
Adds Kind what r before after = Keeps Kind (added what) (held before) (told r) (held before) (held after)

abbrev pub Replaces : {X : Type 0} → (List X → Type 0) → Result (List X) PathFault → Result (Unit {0}) PathFault → Lent X → Lent X → Type 0
Replaces Kind what r before after = Keeps Kind (replaced what) (emptied (held before)) (told r) (held before) (held after)
