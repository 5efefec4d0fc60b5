-- The places of arcs.
use Rattle.std.proofs.Common.{◌≡◌, ℕ, ◌+◌, ◌-◌, ◌*◌, ◌/◌, ◌≤◌, Bool, true, false, cond, List, [], ◌∷◌, map, length, take, drop, sym, refl, ap, ◌∙◌, mul-le-mul_right, arith, lit≤, length-append, length-drop, w64, Fits}
use lib.Ieee.{Float, le}
use Rattle.std.proofs.lemmas.List.{length-take-le, length-map, take-map, take-take}
use Rattle.emath.specs.Plane as plane
use Rattle.emath.specs.declared.plane.Pos2.{Pos2}
use Rattle.emath.specs.declared.plane.Vec2.{Vec2}
use Rattle.emath.specs.declared.rect.Rect.{Rect}
use Rattle.path.specs.Arcs.{quadrant_places, quadrant_count, but_last, number_of, arc_places, arc_count, corners_of, square, joined, joined_count, no_radii, rounded, rounded_count}
use Rattle.circles.specs.Circles.{circle, quarter_steps}
use Rattle.path.specs.Circling.{place_on}
use Rattle.path.specs.declared.arc.Arc.{Arc}
use Rattle.path.specs.declared.arc.Corners.{Corners}
use Rattle.path.specs.declared.arc.Quadrant.{Quadrant}
use Rattle.path.specs.declared.arc.Quadrant.TheVariants.{SouthEast, SouthWest, NorthWest, NorthEast}
use Rattle.path.specs.declared.corner_radius.CornerRadiusF32.{CornerRadiusF32}
use Rattle.circles.proofs.Circles.{circle_length, quarter_short}

-- the entries of a quadrant
quarter : Float → ℕ → List Vec2
quarter r q = take (quarter_steps r + 1) (drop (q * quarter_steps r) (circle r))

quarter_length : (r : Float) (q : ℕ) → q ≤ 3 → length (quarter r q) ≡ quarter_steps r + 1
unfolding quarter
quarter_length r q h =
    let k = quarter_steps r in
    let before : q * k ≤ 3 * k = mul-le-mul_right k h in
    length-take-le (k + 1) (drop (q * k) (circle r)) (omega (arith, length-drop (q * k) (circle r), circle_length r))

-- ---- how many places

module _ (c : Pos2) (r : Float) (q : ℕ) (h : q ≤ 3) where
  by_radius_lem : (b : Bool) → length (cond b (c ∷ []) (map (place_on c r) (quarter r q))) ≡ cond b 1 (quarter_steps r + 1)
  by_radius_lem true = refl
  by_radius_lem false = length-map (quarter r q) (place_on c r) ∙ quarter_length r q h

  pub quadrant_length : length (quadrant_places c r q) ≡ quadrant_count r
  unfolding quarter
  quadrant_length = by_radius_lem (le r plane.zero)

  by_drop : (b : Bool) → length (cond b (but_last (quadrant_places c r q)) (quadrant_places c r q)) ≡ cond b (quadrant_count r - 1) (quadrant_count r)
  by_drop true = length-take-le (length (quadrant_places c r q) - 1) (quadrant_places c r q) (omega arith) ∙ ap (λ n. n - 1) quadrant_length
  by_drop false = quadrant_length

pub number_few : (q : Quadrant) → number_of q ≤ 3
number_few SouthEast = lit≤ tt
number_few SouthWest = lit≤ tt
number_few NorthWest = lit≤ tt
number_few NorthEast = lit≤ tt

pub arc_length : (a : Arc) → length (arc_places a) ≡ arc_count a
arc_length a = by_drop a.circle.center a.circle.radius (number_of a.quadrant) (number_few a.quadrant) a.drops_last

pub joined_length : (k : Corners) → length (joined k) ≡ joined_count k
joined_length k =
    let se = arc_length k.se in
    let sw = arc_length k.sw in
    let nw = arc_length k.nw in
    let ne = arc_length k.ne in
    simp length-append (omega arith)

pub rounded_length : (r : Rect) (k : CornerRadiusF32) → length (rounded r k) ≡ rounded_count r k
rounded_length r k = which (no_radii k)
  where
    which : (b : Bool) → length (cond b (square r) (joined (corners_of r k))) ≡ cond b 4 (joined_count (corners_of r k))
    which true = refl
    which false = joined_length (corners_of r k)

-- without a radius an arc has its centre, or no place if it drops its last
pub no_places : (a : Arc) → le a.circle.radius plane.zero ≡ true → a.drops_last ≡ true → arc_places a ≡ []
no_places a e d = simp (e, d) refl

pub one_place : (a : Arc) → le a.circle.radius plane.zero ≡ true → a.drops_last ≡ false → arc_places a ≡ a.circle.center ∷ []
one_place a e d = simp (e, d) refl

-- ---- an arc with a radius is a part of its circle, cut as the code cuts it

module _ (c : Pos2) (r : Float) (q : ℕ) (h : q ≤ 3) where
  part : (b : Bool) → cond b (but_last (map (place_on c r) (quarter r q))) (map (place_on c r) (quarter r q)) ≡ map (place_on c r) (take (cond b (quarter_steps r + 1 - 1) (quarter_steps r + 1)) (drop (q * quarter_steps r) (circle r)))
  unfolding quarter
  part true =
      let k = quarter_steps r in
      let long = length-map (quarter r q) (place_on c r) ∙ quarter_length r q h in
      ap (λ n. take (n - 1) (map (place_on c r) (quarter r q))) long
      ∙ take-map (place_on c r) (k + 1 - 1) (quarter r q)
      ∙ ap (map (place_on c r)) (take-take (k + 1 - 1) (k + 1) (drop (q * k) (circle r)) (omega arith))
  part false = refl

count_most : (b : Bool) (k : ℕ) → cond b (k + 1 - 1) (k + 1) ≤ k + 1
count_most true k = omega arith
count_most false k = omega arith

module _ (a : Arc) (ns : List Vec2) (at n : ℕ) (numbered : at ≡ number_of a.quadrant) (is : ns ≡ circle a.circle.radius) (counted : n ≡ arc_count a) (e : le a.circle.radius plane.zero ≡ false) where
  quarter_is : length ns / 4 ≡ quarter_steps a.circle.radius
  quarter_is = omega (arith, ap length is, circle_length a.circle.radius)

  count_is : n ≡ cond a.drops_last (quarter_steps a.circle.radius + 1 - 1) (quarter_steps a.circle.radius + 1)
  count_is = simp e at counted

  pub cut_fits : at * (length ns / 4) + n ≤ length ns
  cut_fits =
      let k = quarter_steps a.circle.radius in
      let before : at * k ≤ 3 * k = mul-le-mul_right k (rw numbered (number_few a.quadrant)) in
      omega (arith, ap (λ s. at * s) quarter_is, count_is, count_most a.drops_last k, ap length is, circle_length a.circle.radius)

  pub cut_begins : Fits w64 (at * (length ns / 4) * 8)
  cut_begins = let fits = cut_fits in let short = quarter_short a.circle.radius in let long = ap length is ∙ circle_length a.circle.radius in omega arith

  pub cut_is : map (place_on a.circle.center a.circle.radius) (take (at * (length ns / 4) + n - at * (length ns / 4)) (drop (at * (length ns / 4)) ns)) ≡ arc_places a
  unfolding quarter
  cut_is =
      let f = place_on a.circle.center a.circle.radius in
      let k = quarter_steps a.circle.radius in
      let m = cond a.drops_last (k + 1 - 1) (k + 1) in
      let whole : at * (length ns / 4) + n - at * (length ns / 4) ≡ n = omega arith in
      ap (λ j. map f (take j (drop (at * (length ns / 4)) ns))) (whole ∙ count_is)
      ∙ ap (λ s. map f (take m (drop (at * s) ns))) quarter_is
      ∙ ap (λ l. map f (take m (drop (at * k) l))) is
      ∙ ap (λ q. map f (take m (drop (q * k) (circle a.circle.radius)))) numbered
      ∙ sym (simp e (part a.circle.center a.circle.radius (number_of a.quadrant) (number_few a.quadrant) a.drops_last))
