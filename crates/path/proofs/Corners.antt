-- The points of open lines.
use Rattle.std.proofs.Common.{◌≡◌, ◌+◌, ◌-◌, ◌*◌, ◌≤◌, List, [], ◌∷◌, ◌++◌, length, get_or, take, drop, sym, refl, ap, ◌∙◌, subst, arith, length-append}
use Rattle.std.proofs.lemmas.List.{take_all}
use Rattle.slice_vec.specs.Held.{Held, extended, pushed}
use Rattle.path.specs.Held.{room}
use Rattle.path.specs.Laws.{Along, done, once, twice}
use Rattle.path.specs.Lines.{point, corner_count, corner_points, turn_of, edge_normal, open_corners, open_points}
use Rattle.path.specs.declared.point.PathPoint.{PathPoint}
use Rattle.emath.specs.declared.plane.Pos2.{Pos2}
use Rattle.emath.specs.declared.plane.Vec2.{Vec2}
use Rattle.path.specs.declared.line.Corner.{Corner}
use Rattle.path.specs.declared.line.Corner.TheVariants.{Mitre, Cut}
use Rattle.path.specs.declared.line.Turn.{Turn}
use Rattle.path.proofs.Growing.{Growing, begins, has_room, goes_on, goes_on_by, extended_then, put}

corner_length : (p : Pos2) (k : Corner) → length (corner_points p k) ≡ corner_count k
corner_length p (Mitre n) = refl
corner_length p (Cut n m) = refl

pub corner_counts : (k : Corner) → (1 ≤ corner_count k) × (corner_count k ≤ 2)
corner_counts (Mitre n) = (omega arith, omega arith)
corner_counts (Cut n m) = (omega arith, omega arith)

-- only the last point has the normal of the line before it
same_length : (n line other : Vec2) (p : Pos2) (qs : List Pos2) → length (open_corners n line p qs) ≡ length (open_corners n other p qs)
same_length n line other p [] = refl
same_length n line other p (q ∷ qs) = refl

-- one corner and the rest
pub turn_length : (n line : Vec2) (p q : Pos2) (qs : List Pos2) (m : Vec2) (t : Turn Corner) → m ≡ edge_normal p q → t ≡ turn_of n m →
    length (open_corners n line p (q ∷ qs)) ≡ corner_count t.joint + length (open_corners t.normal t.normal q qs)
turn_length n line p q qs m t em et =
    let m' = edge_normal p q in
    let u = turn_of n m' in
    subst (λ v. length (open_corners n line p (q ∷ qs)) ≡ corner_count v.joint + length (open_corners v.normal v.normal q qs)) (sym (et ∙ ap (turn_of n) em))
    (length-append (corner_points p u.joint) (open_corners u.normal m' q qs)
    ∙ ap (λ a. a + length (open_corners u.normal m' q qs)) (corner_length p u.joint)
    ∙ ap (λ a. corner_count u.joint + a) (same_length u.normal m' u.normal q qs))

-- an edge adds one point or two
no_fewer : (n line : Vec2) (p : Pos2) (qs : List Pos2) → 1 + length qs ≤ length (open_corners n line p qs)
no_fewer n line p [] = omega arith
no_fewer n line p (q ∷ qs) =
    let t = turn_of n (edge_normal p q) in
    omega (arith, turn_length n line p q qs _ t refl refl, (corner_counts t.joint).0, no_fewer t.normal t.normal q qs)

no_more : (n line : Vec2) (p : Pos2) (qs : List Pos2) → length (open_corners n line p qs) ≤ 1 + 2 * length qs
no_more n line p [] = omega arith
no_more n line p (q ∷ qs) =
    let t = turn_of n (edge_normal p q) in
    omega (arith, turn_length n line p q qs _ t refl refl, (corner_counts t.joint).1, no_more t.normal t.normal q qs)

pub open_bounds : (p q : Pos2) (qs : List Pos2) → (2 + length qs ≤ length (open_points (p ∷ q ∷ qs))) × (length (open_points (p ∷ q ∷ qs)) ≤ 2 + 2 * length qs)
open_bounds p q qs = (omega (arith, no_fewer (edge_normal p q) (edge_normal p q) q qs), omega (arith, no_more (edge_normal p q) (edge_normal p q) q qs))

-- ---- where the points of a line lie

corner_along : (p : Pos2) (k : Corner) (places : List Pos2) (points : List PathPoint) → Along places points → Along (p ∷ places) (corner_points p k ++ points)
corner_along p (Mitre n) places points a = once p n a
corner_along p (Cut n m) places points a = twice p n m a

corners_along : (n edge : Vec2) (p : Pos2) (qs : List Pos2) → Along (p ∷ qs) (open_corners n edge p qs)
corners_along n edge p [] = once p edge done
corners_along n edge p (q ∷ qs) =
    let m = edge_normal p q in
    corner_along p (turn_of n m).joint (q ∷ qs) (open_corners (turn_of n m).normal m q qs) (corners_along (turn_of n m).normal m q qs)

pub open_along : (places : List Pos2) → 2 ≤ length places → Along places (open_points places)
open_along [] h = absurd (omega arith)
open_along (p ∷ []) h = absurd (omega arith)
open_along (p ∷ q ∷ qs) h = once p (edge_normal p q) (corners_along (edge_normal p q) (edge_normal p q) q qs)

-- ---- writing them

module _ {start : Held PathPoint} {all : List PathPoint} {at : Held PathPoint} (n line : Vec2) (p q : Pos2) (qs : List Pos2) (m : Vec2) (t : Turn Corner) (em : m ≡ edge_normal p q) (et : t ≡ turn_of n m) where
  turned : Growing start all at (open_corners n line p (q ∷ qs)) → Growing start all at (corner_points p t.joint ++ open_corners t.normal m q qs)
  turned b =
      let e = et ∙ ap (turn_of n) em in
      subst (λ (v : Turn Corner). Growing start all at (corner_points p v.joint ++ open_corners v.normal m q qs)) (sym e)
      (subst (λ (k : Vec2). Growing start all at (corner_points p (turn_of n (edge_normal p q)).joint ++ open_corners (turn_of n (edge_normal p q)).normal k q qs)) (sym em) b)

  pub turn_fits : Growing start all at (open_corners n line p (q ∷ qs)) → length (corner_points p t.joint) ≤ room at
  turn_fits b = has_room (corner_points p t.joint) (open_corners t.normal m q qs) (turned b)

  pub turn_goes_on : (next : Held PathPoint) → Growing start all at (open_corners n line p (q ∷ qs)) → next ≡ extended at (corner_points p t.joint) → Growing start all next (open_corners t.normal m q qs)
  turn_goes_on next b e = goes_on (corner_points p t.joint) (open_corners t.normal m q qs) next (turned b) e

-- the first point, and the corners after it
module _ (start at : Held PathPoint) (p q : Pos2) (qs : List Pos2) (m : Vec2) (em : m ≡ edge_normal p q) where
  pub open_begins : length (open_points (p ∷ q ∷ qs)) ≤ room start → at ≡ pushed 1048576 start (point p m ∷ []) → Growing at (open_corners m m q qs) at (open_corners m m q qs)
  open_begins f =
      subst (λ (k : Vec2). at ≡ pushed 1048576 start (point p k ∷ []) → Growing at (open_corners k k q qs) at (open_corners k k q qs)) (sym em)
      (λ e. begins at _ (goes_on_by _ _ at (begins start (open_points (p ∷ q ∷ qs)) f) e).fit)

  pub open_ends : (final : Held PathPoint) → length (open_points (p ∷ q ∷ qs)) ≤ room start → at ≡ pushed 1048576 start (point p m ∷ []) → final ≡ extended at (open_corners m m q qs) → final ≡ extended start (open_points (p ∷ q ∷ qs))
  open_ends final f e last =
      last ∙ ap (λ h. extended h (open_corners m m q qs)) (put start at (point p m ∷ []) (omega (arith, f)) e) ∙ extended_then start (point p m ∷ []) (open_corners m m q qs)
      ∙ ap (λ k. extended start (point p k ∷ open_corners k k q qs)) em

-- a line of two places and more, cut as the code cuts it
pub in_parts : (ps : List Pos2) (d : Pos2) → 2 ≤ length ps → open_points (get_or ps 0 d ∷ get_or ps 1 d ∷ take (length ps - 2) (drop 2 ps)) ≡ open_points ps
in_parts [] d h = absurd (omega arith)
in_parts (p ∷ []) d h = absurd (omega arith)
in_parts (p ∷ q ∷ qs) d h = ap (λ l. open_points (p ∷ q ∷ l)) (take_all _ qs (omega arith))
