-- Triangles that the code reads three indices at a time.
use Rattle.std.proofs.Common.{◌≡◌, ℕ, suc, ◌<◌, List, [], ◌∷◌, ◌++◌, map, length, get_or, refl, ap, ◌∙◌, arith}
use Rattle.std.specs.List.{flat_map}
use Rattle.tessellator.specs.Triangles.{flat, named}

three : (t : List ℕ) → length t ≡ 3 → t ≡ get_or t 0 0 ∷ get_or t 1 0 ∷ get_or t 2 0 ∷ []
three [] e = absurd (omega arith)
three (x ∷ []) e = absurd (omega arith)
three (x ∷ y ∷ []) e = absurd (omega arith)
three (x ∷ y ∷ z ∷ []) e = refl
three (x ∷ y ∷ z ∷ v ∷ t) e = absurd (omega arith)

pub flat_named : (ts : List (List ℕ)) → ((i : ℕ) → i < length ts → length (get_or ts i []) ≡ 3) → flat_map (λ t. t) ts ≡ flat (map named ts)
flat_named [] threes = refl
flat_named (t ∷ ts) threes =
    ap (λ l. l ++ flat_map (λ t. t) ts) (three t (threes 0 (omega arith)))
    ∙ ap (λ l. get_or t 0 0 ∷ get_or t 1 0 ∷ get_or t 2 0 ∷ l) (flat_named ts (λ i h. threes (suc i) (omega arith)))
