-- The circle tables as decimal entries, and the one that serves for a radius.
use Rattle.std.specs.Prelude.{◌≡◌, ℕ, ◌+◌, ◌-◌, ◌*◌, ◌≤◌, Bool, true, false, if◌then◌else◌, ◌&&◌, IsTrue, All, List, [], ◌∷◌, map, length, ◌==◌, from_bits, slice_index_or, Float}
use Rattle.std.specs.Float.{binary32}
use Rattle.std.specs.Float.Ieee.{round, le, lt}
use Rattle.emath.specs.Plane as plane
use Rattle.emath.specs.declared.plane.Vec2.{Vec2}

-- a decimal fraction: its sign, and its size in millionths
pub data Decimal : Type 0 where
  up down : ℕ → Decimal

abbrev pub millionths : Decimal → ℕ
millionths (up n) = n
millionths (down n) = n

-- the f32 nearest to a decimal fraction
abbrev pub nearest : Decimal → Float
nearest (up n) = round binary32 false n 1000000
nearest (down n) = round binary32 true n 1000000

pub record Entry : Type 0 where
  pub across : Decimal
  pub along : Decimal

abbrev pub entry : Decimal → Decimal → Entry
entry x y = record { across = x; along = y }

abbrev pub direction : Entry → Vec2
direction e = record { x = nearest e.across; y = nearest e.along }

-- ---- the tables
-- Those of 16 and of 128 are written out. Each other one is every second entry of the next; but 16 and 32 differ
-- in the last digit of three entries and in the signs of two zeros.

abbrev pub every_second : List Entry → List Entry
every_second [] = []
every_second (e ∷ []) = e ∷ []
every_second (e ∷ f ∷ es) = e ∷ every_second es

unfoldable pub entries16 : List Entry
entries16 =
    entry (up 1000000) (up 0) ∷ entry (up 923880) (up 382683) ∷ entry (up 707107) (up 707107) ∷ entry (up 382683) (up 923880) ∷
    entry (up 0) (up 1000000) ∷ entry (down 382684) (up 923880) ∷ entry (down 707107) (up 707107) ∷ entry (down 923880) (up 382683) ∷
    entry (down 1000000) (up 0) ∷ entry (down 923880) (down 382683) ∷ entry (down 707107) (down 707107) ∷ entry (down 382684) (down 923880) ∷
    entry (up 0) (down 1000000) ∷ entry (up 382684) (down 923879) ∷ entry (up 707107) (down 707107) ∷ entry (up 923880) (down 382683) ∷
    entry (up 1000000) (up 0) ∷ []

unfoldable pub entries8 : List Entry
entries8 = every_second entries16

unfoldable pub entries128 : List Entry
entries128 =
    entry (up 1000000) (up 0) ∷ entry (up 998795) (up 49068) ∷ entry (up 995185) (up 98017) ∷ entry (up 989177) (up 146730) ∷
    entry (up 980785) (up 195090) ∷ entry (up 970031) (up 242980) ∷ entry (up 956940) (up 290285) ∷ entry (up 941544) (up 336890) ∷
    entry (up 923880) (up 382683) ∷ entry (up 903989) (up 427555) ∷ entry (up 881921) (up 471397) ∷ entry (up 857729) (up 514103) ∷
    entry (up 831470) (up 555570) ∷ entry (up 803208) (up 595699) ∷ entry (up 773010) (up 634393) ∷ entry (up 740951) (up 671559) ∷
    entry (up 707107) (up 707107) ∷ entry (up 671559) (up 740951) ∷ entry (up 634393) (up 773010) ∷ entry (up 595699) (up 803208) ∷
    entry (up 555570) (up 831470) ∷ entry (up 514103) (up 857729) ∷ entry (up 471397) (up 881921) ∷ entry (up 427555) (up 903989) ∷
    entry (up 382683) (up 923880) ∷ entry (up 336890) (up 941544) ∷ entry (up 290285) (up 956940) ∷ entry (up 242980) (up 970031) ∷
    entry (up 195090) (up 980785) ∷ entry (up 146730) (up 989177) ∷ entry (up 98017) (up 995185) ∷ entry (up 49068) (up 998795) ∷
    entry (up 0) (up 1000000) ∷ entry (down 49068) (up 998795) ∷ entry (down 98017) (up 995185) ∷ entry (down 146730) (up 989177) ∷
    entry (down 195090) (up 980785) ∷ entry (down 242980) (up 970031) ∷ entry (down 290285) (up 956940) ∷ entry (down 336890) (up 941544) ∷
    entry (down 382683) (up 923880) ∷ entry (down 427555) (up 903989) ∷ entry (down 471397) (up 881921) ∷ entry (down 514103) (up 857729) ∷
    entry (down 555570) (up 831470) ∷ entry (down 595699) (up 803208) ∷ entry (down 634393) (up 773010) ∷ entry (down 671559) (up 740951) ∷
    entry (down 707107) (up 707107) ∷ entry (down 740951) (up 671559) ∷ entry (down 773010) (up 634393) ∷ entry (down 803208) (up 595699) ∷
    entry (down 831470) (up 555570) ∷ entry (down 857729) (up 514103) ∷ entry (down 881921) (up 471397) ∷ entry (down 903989) (up 427555) ∷
    entry (down 923880) (up 382683) ∷ entry (down 941544) (up 336890) ∷ entry (down 956940) (up 290285) ∷ entry (down 970031) (up 242980) ∷
    entry (down 980785) (up 195090) ∷ entry (down 989177) (up 146730) ∷ entry (down 995185) (up 98017) ∷ entry (down 998795) (up 49068) ∷
    entry (down 1000000) (up 0) ∷ entry (down 998795) (down 49068) ∷ entry (down 995185) (down 98017) ∷ entry (down 989177) (down 146730) ∷
    entry (down 980785) (down 195090) ∷ entry (down 970031) (down 242980) ∷ entry (down 956940) (down 290285) ∷ entry (down 941544) (down 336890) ∷
    entry (down 923880) (down 382683) ∷ entry (down 903989) (down 427555) ∷ entry (down 881921) (down 471397) ∷ entry (down 857729) (down 514103) ∷
    entry (down 831470) (down 555570) ∷ entry (down 803208) (down 595699) ∷ entry (down 773010) (down 634393) ∷ entry (down 740951) (down 671559) ∷
    entry (down 707107) (down 707107) ∷ entry (down 671559) (down 740951) ∷ entry (down 634393) (down 773010) ∷ entry (down 595699) (down 803208) ∷
    entry (down 555570) (down 831470) ∷ entry (down 514103) (down 857729) ∷ entry (down 471397) (down 881921) ∷ entry (down 427555) (down 903989) ∷
    entry (down 382683) (down 923880) ∷ entry (down 336890) (down 941544) ∷ entry (down 290285) (down 956940) ∷ entry (down 242980) (down 970031) ∷
    entry (down 195090) (down 980785) ∷ entry (down 146730) (down 989177) ∷ entry (down 98017) (down 995185) ∷ entry (down 49068) (down 998795) ∷
    entry (down 0) (down 1000000) ∷ entry (up 49068) (down 998795) ∷ entry (up 98017) (down 995185) ∷ entry (up 146730) (down 989177) ∷
    entry (up 195090) (down 980785) ∷ entry (up 242980) (down 970031) ∷ entry (up 290285) (down 956940) ∷ entry (up 336890) (down 941544) ∷
    entry (up 382683) (down 923880) ∷ entry (up 427555) (down 903989) ∷ entry (up 471397) (down 881921) ∷ entry (up 514103) (down 857729) ∷
    entry (up 555570) (down 831470) ∷ entry (up 595699) (down 803208) ∷ entry (up 634393) (down 773010) ∷ entry (up 671559) (down 740951) ∷
    entry (up 707107) (down 707107) ∷ entry (up 740951) (down 671559) ∷ entry (up 773010) (down 634393) ∷ entry (up 803208) (down 595699) ∷
    entry (up 831470) (down 555570) ∷ entry (up 857729) (down 514103) ∷ entry (up 881921) (down 471397) ∷ entry (up 903989) (down 427555) ∷
    entry (up 923880) (down 382683) ∷ entry (up 941544) (down 336890) ∷ entry (up 956940) (down 290285) ∷ entry (up 970031) (down 242980) ∷
    entry (up 980785) (down 195090) ∷ entry (up 989177) (down 146730) ∷ entry (up 995185) (down 98017) ∷ entry (up 998795) (down 49068) ∷
    entry (up 1000000) (down 0) ∷ []

unfoldable pub entries64 : List Entry
entries64 = every_second entries128

unfoldable pub entries32 : List Entry
entries32 = every_second entries64

-- ---- which one serves

-- Radii to 2, to 5, below 18, below 50, and the others.
abbrev pub by_radius : {A : Type 0} → A → A → A → A → A → Float → A
by_radius a b c d e r =
    if le r plane.two then a else if le r (from_bits binary32 0x40A0_0000) then b else if lt r (from_bits binary32 0x4190_0000) then c else if lt r (from_bits binary32 0x4248_0000) then d else e

abbrev pub entries : Float → List Entry
entries r = by_radius entries8 entries16 entries32 entries64 entries128 r

-- the steps of a quarter of it
unfoldable pub quarter_steps : Float → ℕ
quarter_steps r = by_radius 2 4 8 16 32 r

unfoldable pub circle : Float → List Vec2
circle r = map direction (entries r)

-- ---- what holds of each of them

-- in millionths, X² + Y² differs from 10^12 by at most 2,000,000
abbrev pub size_sq : Entry → ℕ
size_sq e = millionths e.across * millionths e.across + millionths e.along * millionths e.along

abbrev pub OnUnitCircle : Entry → Type 0
OnUnitCircle e = (1000000000000 ≤ size_sq e + 2000000) × (size_sq e ≤ 1000000000000 + 2000000)

-- equal up to the sign of a zero
abbrev pub same : Decimal → Decimal → Bool
same (up n) (up m) = n == m
same (up n) (down m) = n == 0 && m == 0
same (down n) (up m) = n == 0 && m == 0
same (down n) (down m) = n == m

abbrev pub entry_at : List Entry → ℕ → Entry
entry_at es k = slice_index_or es k (entry (up 0) (up 0))

-- the first entry is repeated last
abbrev pub closes : List Entry → Bool
closes es = let last = entry_at es (length es - 1) in same (entry_at es 0).across last.across && same (entry_at es 0).along last.along

-- a unit circle of so many steps to the quarter
pub record UnitCircle (quarter : ℕ) (es : List Entry) : Type 0 where
  pub round : All OnUnitCircle es
  pub closed : IsTrue (closes es)
  pub steps : length es ≡ 4 * quarter + 1
