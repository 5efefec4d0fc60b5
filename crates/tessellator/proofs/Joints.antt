-- How many triangles join the points of a figure.
use Rattle.std.proofs.Common.{◌≡◌, ℕ, zero, suc, ◌+◌, ◌-◌, ◌*◌, ◌≤◌, length, sym, refl, suc-mul, zero-mul, arith, length-append}
use Rattle.tessellator.specs.Joints.{joint, width, joints, closed}
use Rattle.tessellator.specs.Kinds.{each}
use Rattle.tessellator.specs.declared.mesh.joint.Joint.{Joint}
use Rattle.tessellator.specs.declared.mesh.joint.Joint.TheVariants.{Plank, Rows, Skirt}
use Rattle.tessellator.proofs.Growth.{length-band, one_and_rest}

pub length-joint : (k : Joint) (i j : ℕ) → 3 * length (joint k i j) ≡ 6 * (width k - 1)
length-joint Skirt i j = refl
length-joint Plank i j = refl
length-joint (Rows R) i j = length-band R i j

pub length-each_joint : (k : Joint) (m : ℕ) → 3 * length (each m (λ i. joint k i (i + 1))) ≡ m * (6 * (width k - 1))
length-each_joint k zero = sym (zero-mul (6 * (width k - 1)))
length-each_joint k (suc m) =
    let before = length-each_joint k m in
    let one = length-joint k m (m + 1) in
    let both = length-append (each m (λ i. joint k i (i + 1))) (joint k m (m + 1)) in
    rw suc-mul (omega arith)

pub length-joints : (k : Joint) (n : ℕ) → 3 * length (joints k n) ≡ (n - 1) * (6 * (width k - 1))
length-joints k n = length-each_joint k (n - 1)

pub length-closed : (k : Joint) (n : ℕ) → 1 ≤ n → 3 * length (closed k n) ≡ n * (6 * (width k - 1))
length-closed k n h =
    let first = length-joint k (n - 1) 0 in
    let rest = length-joints k n in
    omega (arith, length-append (joint k (n - 1) 0) (joints k n), one_and_rest n (6 * (width k - 1)) h)
