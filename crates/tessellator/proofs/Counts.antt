-- How many triangles each kind of figure has.
use Rattle.std.proofs.Common.{◌≡◌, ℕ, ◌+◌, ◌-◌, ◌*◌, ◌≤◌, List, [], ◌∷◌, ◌++◌, length, sym, refl, ap, ◌∙◌, add_assoc, arith, length-append}
use Rattle.tessellator.specs.Joints.{closed}
use Rattle.tessellator.specs.declared.mesh.joint.Joint.TheVariants.{Plank, Rows, Skirt}
use Rattle.tessellator.specs.Kinds.{vertex_count, fan, polygon, plank, planks, bands, ring, cap, triangles, index_count, fewest}
use Rattle.tessellator.specs.State.{MeshState, with_triangles, index_room}
use Rattle.tessellator.specs.Triangles.{Triangle, tri, raised}
use Rattle.tessellator.specs.declared.kind.Kind.{Kind}
use Rattle.tessellator.specs.declared.kind.Kind.TheVariants.{Nothing, HardFill, FeatheredFill, Line, Loop, Filled}
use Rattle.tessellator.specs.declared.stroke.Style.{Style}
use Rattle.tessellator.specs.declared.stroke.Style.TheVariants.{Hard, Thin, Thick}
use Rattle.tessellator.proofs.Joints.{length-joints, length-closed}
use Rattle.tessellator.proofs.Growth.{length-each, length-raised, index_room_left, vertices_kept, triangles_step}

pub length-fan : (R r n : ℕ) → length (fan R r n) ≡ n - 2
length-fan R r n = length-each (λ i. tri (R * (i + 1) + r) r (R * (i + 2) + r) ∷ []) 1 (λ i. refl) (n - 2) ∙ omega arith

pub length-polygon : (n : ℕ) → length (polygon n) ≡ n - 2
length-polygon n = length-each (λ i. tri 0 (i + 1) (i + 2) ∷ []) 1 (λ i. refl) (n - 2) ∙ omega arith

-- three indices to a triangle
loop_indices : (s : Style) (n : ℕ) → 2 ≤ n → 3 * length (triangles (Loop s) n) ≡ index_count (Loop s) n
loop_indices Hard n h = omega (arith, length-append (planks n) (plank (n - 1) 0), length-joints Plank n)
loop_indices Thin n h = omega (arith, length-closed (Rows 3) n (omega arith))
loop_indices Thick n h = omega (arith, length-closed (Rows 4) n (omega arith))

pub index_count_lem : (kind : Kind) (n : ℕ) → fewest kind ≤ n → 3 * length (triangles kind n) ≡ index_count kind n
index_count_lem Nothing n h = refl
index_count_lem HardFill n h = omega (arith, length-polygon n)
index_count_lem FeatheredFill n h =
    omega (arith, length-append (fan 2 0 n) (closed Skirt n), length-fan 2 0 n, length-closed Skirt n (omega arith))
index_count_lem (Line Hard) n h = omega (arith, length-joints Plank n)
index_count_lem (Line Thin) n h = omega (arith, length-joints (Rows 3) n)
index_count_lem (Line Thick) n h =
    omega (arith, length-append (cap 0) (bands 4 (n - 1) ++ cap (n - 1)), length-append (bands 4 (n - 1)) (cap (n - 1)), length-joints (Rows 4) n)
index_count_lem (Loop s) n h = loop_indices s n h
index_count_lem (Filled Hard) n h =
    omega (arith, length-append (triangles (Loop Hard) n) (raised (2 * n) (polygon n)), loop_indices Hard n (omega arith), length-raised (2 * n) (polygon n), length-polygon n)
index_count_lem (Filled Thin) n h = omega (arith, length-append (ring 3 n) (fan 3 2 n), loop_indices Thin n h, length-fan 3 2 n)
index_count_lem (Filled Thick) n h = omega (arith, length-append (ring 4 n) (fan 4 3 n), loop_indices Thick n h, length-fan 4 3 n)

-- ---- triangles counted from another vertex

raise_twice : (a b : ℕ) (ts : List Triangle) → raised (a + b) ts ≡ raised a (raised b ts)
raise_twice a b [] = refl
raise_twice a b (tri x y z ∷ ts) = λ i. tri (add_assoc a b x i) (add_assoc a b y i) (add_assoc a b z i) ∷ raise_twice a b ts i

pub further_on : (base k : ℕ) (m : MeshState) (ts : List Triangle) → with_triangles (base + k) m ts ≡ with_triangles base m (raised k ts)
unfolding with_triangles
further_on base k m ts = simp (raise_twice, length-raised)

-- ---- the fill within a loop

pub record Inside (style : Style) (base n : ℕ) (m : MeshState) : Type 0 where
  pub many : 2 ≤ n
  pub vertices : base + vertex_count (Filled style) n ≤ length m.vertices
  pub indices : 3 * (n - 2) ≤ index_room m

split : (style : Style) (n : ℕ) → fewest (Filled style) ≤ n → (index_count (Filled style) n ≡ index_count (Loop style) n + 3 * (n - 2)) × (2 ≤ n)
split Hard n h = (refl, omega arith)
split Thin n h = (refl, h)
split Thick n h = (refl, h)

pub inside : (style : Style) (base n : ℕ) (m m₁ : MeshState) → m₁ ≡ with_triangles base m (triangles (Loop style) n) → fewest (Filled style) ≤ n →
    base + vertex_count (Filled style) n ≤ length m.vertices → index_count (Filled style) n ≤ index_room m → Inside style base n m₁
inside style base n m m₁ e few v i =
    let two = split style n few in
    let loop = loop_indices style n two.1 in
    let kept = vertices_kept m m₁ base _ e in
    record { many = two.1; vertices = omega arith; indices = index_room_left m m₁ base _ e (3 * (n - 2)) (omega (arith, two.0)) }

pub filled_by : (style s : Style) (base n : ℕ) (m m₁ m₂ : MeshState) (ts : List Triangle) → style ≡ s → m₁ ≡ with_triangles base m (triangles (Loop style) n) → m₂ ≡ with_triangles base m₁ ts →
    triangles (Filled s) n ≡ triangles (Loop s) n ++ ts → m₂ ≡ with_triangles base m (triangles (Filled style) n)
filled_by style s base n m m₁ m₂ ts is e₁ e₂ whole =
    triangles_step m m₁ m₂ base (triangles (Loop style) n) ts (triangles (Filled style) n) e₁ e₂
    (ap (λ (k : Style). triangles (Filled k) n) is ∙ whole ∙ ap (λ (k : Style). triangles (Loop k) n ++ ts) (sym is))
