-- The winding of points, and how many are left when they are turned.
use Rattle.std.proofs.Common.{◌≡◌, ℕ, ◌+◌, ◌<◌, ◌≤◌, List, [], ◌∷◌, map, reverse, length, get_or, drop, sym, refl, ap, ◌∙◌, arith}
use lib.Ieee.{Float, binary64, of_bits, add, lt}
use Rattle.std.proofs.lemmas.List.{length-map, length-reverse, at_drop_more}
use Rattle.std.proofs.lemmas.Bool.{cond_both}
use Rattle.emath.specs.declared.plane.Pos2.{Pos2}
use Rattle.path.specs.Turns.{flipped, area, area_from, wedge, turned}
use Rattle.path.specs.declared.point.PathPoint.{PathPoint}

pub length-turned : (points : List PathPoint) → length (turned points) ≡ length points
length-turned points =
    cond_both (lt (area points) (of_bits binary64 0)) (map flipped (reverse points)) points (λ ps. length ps ≡ length points)
    (λ e. length-map (reverse points) flipped ∙ length-reverse points) (λ e. refl)

pub no_area : (points : List PathPoint) → length points ≤ 0 → of_bits binary64 0 ≡ area points
no_area [] h = refl
no_area (p ∷ ps) h = absurd (omega arith)

-- the sum goes on with the next point
pub area_step : (points : List PathPoint) (i : ℕ) (p d : PathPoint) (sum w : Float) (place : Pos2) → i < length points → p ≡ get_or points i d → w ≡ wedge place p.pos → area_from sum place (drop i points) ≡ area_from (add binary64 sum w) p.pos (drop (i + 1) points)
area_step points i p d sum w place h e ew =
    at_drop_more (area_from sum place) points i d h
    ∙ ap (λ q. area_from (add binary64 sum (wedge place q.pos)) q.pos (drop (i + 1) points)) (sym e)
    ∙ ap (λ v. area_from (add binary64 sum v) p.pos (drop (i + 1) points)) (sym ew)
