-- The points of loops.
use Rattle.std.proofs.Common.{◌≡◌, suc, ◌+◌, ◌-◌, ◌≤◌, List, [], ◌∷◌, length, get_or, take, drop, sym, refl, ap, ◌∙◌, subst, arith}
use Rattle.std.proofs.lemmas.List.{take_all}
use Rattle.emath.specs.declared.plane.Pos2.{Pos2}
use Rattle.emath.specs.declared.plane.Vec2.{Vec2}
use Rattle.slice_vec.specs.Held.{Held, extended, pushed}
use Rattle.path.specs.Laws.{At}
use Rattle.path.specs.Lines.{point, edge_normal, bend_of, loop_corners, last_of, loop_points}
use Rattle.path.specs.declared.line.Turn.{Turn}
use Rattle.path.specs.declared.point.PathPoint.{PathPoint}
use Rattle.path.proofs.Growing.{Growing, goes_on_by, ends}

corners_at : (closing n : Vec2) (p : Pos2) (qs : List Pos2) → At (p ∷ qs) (loop_corners closing n p qs)
corners_at closing n p [] = refl
corners_at closing n p (q ∷ qs) = ap (λ l. p ∷ l) (corners_at closing (bend_of n (edge_normal p q)).normal q qs)

pub loop_at : (places : List Pos2) → At places (loop_points places)
loop_at [] = refl
loop_at (p ∷ qs) = corners_at (edge_normal (last_of p qs) p) (edge_normal (last_of p qs) p) p qs

pub corners_length : (closing n : Vec2) (p : Pos2) (qs : List Pos2) → length (loop_corners closing n p qs) ≡ 1 + length qs
corners_length closing n p [] = refl
corners_length closing n p (q ∷ qs) = ap suc (corners_length closing (bend_of n (edge_normal p q)).normal q qs) ∙ omega arith

pub loop_length : (places : List Pos2) → length (loop_points places) ≡ length places
loop_length [] = refl
loop_length (p ∷ qs) = corners_length (edge_normal (last_of p qs) p) (edge_normal (last_of p qs) p) p qs ∙ omega arith

last_is : (p : Pos2) (qs : List Pos2) (d : Pos2) → get_or (p ∷ qs) (length qs) d ≡ last_of p qs
last_is p [] d = refl
last_is p (q ∷ qs) d = last_is q qs d

-- a loop of two places and more, cut as the code cuts it
pub in_parts : (ps : List Pos2) (d : Pos2) → 2 ≤ length ps →
    let closing = edge_normal (get_or ps (length ps - 1) d) (get_or ps 0 d) in loop_corners closing closing (get_or ps 0 d) (take (length ps - 1) (drop 1 ps)) ≡ loop_points ps
in_parts [] d h = absurd (omega arith)
in_parts (p ∷ qs) d h =
    let last : length (p ∷ qs) - 1 ≡ length qs = omega arith in
    ap (λ k. let closing = edge_normal (get_or (p ∷ qs) k d) p in loop_corners closing closing p (take k qs)) last
    ∙ ap (λ l. let closing = edge_normal (get_or (p ∷ qs) (length qs) d) p in loop_corners closing closing p l) (take_all (length qs) qs (omega arith))
    ∙ ap (λ l. loop_corners (edge_normal l p) (edge_normal l p) p qs) (last_is p qs d)

module _ {start : Held PathPoint} {all : List PathPoint} {at : Held PathPoint} (closing n : Vec2) (p : Pos2) (b : Turn Vec2) where
  -- one corner
  pub bend_goes_on : (q : Pos2) (qs : List Pos2) (m : Vec2) (next : Held PathPoint) → m ≡ edge_normal p q → b ≡ bend_of n m →
      Growing start all at (loop_corners closing n p (q ∷ qs)) → next ≡ pushed 1048576 at (point p b.joint ∷ []) → Growing start all next (loop_corners closing b.normal q qs)
  bend_goes_on q qs m next em eb w =
      subst (λ (v : Turn Vec2). next ≡ pushed 1048576 at (point p v.joint ∷ []) → Growing start all next (loop_corners closing v.normal q qs)) (sym (eb ∙ ap (bend_of n) em))
      (λ e. goes_on_by _ _ next w e)

  -- the last one
  pub bend_ends : (next : Held PathPoint) → b ≡ bend_of n closing → Growing start all at (loop_corners closing n p []) → next ≡ pushed 1048576 at (point p b.joint ∷ []) → next ≡ extended start all
  bend_ends next eb w =
      subst (λ (v : Turn Vec2). next ≡ pushed 1048576 at (point p v.joint ∷ []) → next ≡ extended start all) (sym eb)
      (λ e. ends (goes_on_by _ [] next w e))
