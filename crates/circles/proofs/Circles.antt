-- Every table is a unit circle: a test over its entries, which antt computes, and what it tells of each.
use Rattle.std.proofs.Common.{◌≡◌, ℕ, ◌+◌, ◌*◌, ◌≤◌, Bool, true, false, cond, ◌&&◌, eqb, leb, List, length, refl, ◌∙◌, lit≤, eqb-true, leb-true}
use Rattle.std.specs.Cmp.{first_so, second_so}
use Rattle.std.specs.List.{list_all}
use Rattle.std.proofs.lemmas.List.Elements.{All-weaker}
use Rattle.std.proofs.lemmas.List.Sums.{AllPass-from_list_all}
use lib.Ieee.{Float, binary32, of_bits, le, lt}
use Rattle.std.proofs.lemmas.List.{length-map}
use Rattle.emath.specs.Plane as plane
use Rattle.circles.specs.Circles.{Entry, size_sq, OnUnitCircle, closes, UnitCircle, direction, circle, entries, quarter_steps, entries8, entries16, entries32, entries64, entries128}

near : Entry → Bool
near e = leb 1000000000000 (size_sq e + 2000000) && leb (size_sq e) (1000000000000 + 2000000)

near_tells : (e : Entry) → near e ≡ true → OnUnitCircle e
unfolding near
near_tells e t = (leb-true _ _ (first_so (leb 1000000000000 (size_sq e + 2000000)) _ t), leb-true _ _ (second_so (leb 1000000000000 (size_sq e + 2000000)) _ t))

passes : ℕ → List Entry → Bool
passes quarter es = list_all near es && (closes es && eqb (length es) (4 * quarter + 1))

-- what the test tells of a table
tells : (quarter : ℕ) (es : List Entry) → passes quarter es ≡ true → UnitCircle quarter es
unfolding passes
tells quarter es t =
    let rest = second_so (list_all near es) _ t in
    record {
      round = All-weaker (λ e. near e ≡ true) OnUnitCircle near_tells es (AllPass-from_list_all near es (first_so (list_all near es) _ t));
      closed = first_so (closes es) _ rest;
      steps = eqb-true _ _ (second_so (closes es) _ rest);
    }

one_of : (b : Bool) (P : ℕ → List Entry → Type 0) {n m : ℕ} {x y : List Entry} → P n x → P m y → P (cond b n m) (cond b x y)
one_of true P p q = p
one_of false P p q = q

by_radius_lem : (P : ℕ → List Entry → Type 0) → P 2 entries8 → P 4 entries16 → P 8 entries32 → P 16 entries64 → P 32 entries128 → (r : Float) → P (quarter_steps r) (entries r)
unfolding quarter_steps
by_radius_lem P a b c d e r =
    one_of (le r plane.two) P a (one_of (le r (of_bits binary32 0x40A0_0000)) P b (one_of (lt r (of_bits binary32 0x4190_0000)) P c (one_of (lt r (of_bits binary32 0x4248_0000)) P d e)))

pub unit_circle : (r : Float) → UnitCircle (quarter_steps r) (entries r)
unfolding passes near entries8 entries16 entries32 entries64 entries128
unit_circle = by_radius_lem UnitCircle (tells 2 entries8 refl) (tells 4 entries16 refl) (tells 8 entries32 refl) (tells 16 entries64 refl) (tells 32 entries128 refl)

pub circle_length : (r : Float) → length (circle r) ≡ 4 * quarter_steps r + 1
unfolding circle
circle_length r = length-map (entries r) direction ∙ (unit_circle r).steps

pub quarter_short : (r : Float) → quarter_steps r ≤ 32
quarter_short = by_radius_lem (λ n es. n ≤ 32) (lit≤ tt) (lit≤ tt) (lit≤ tt) (lit≤ tt) (lit≤ tt)
