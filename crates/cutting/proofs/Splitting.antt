-- From what a split has checked and written to what it answers and leaves.
use Rattle.std.proofs.Common.{◌≡◌, ℕ, ◌+◌, ◌-◌, ◌<◌, ◌≤◌, Bool, true, false, cond, leb, List, [], ◌∷◌, length, set, Some, None, Ok, Err, Option, Result, sym, refl, ap, ◌∙◌, arith}
use Rattle.std.specs.List.{AllByRecursion}
use Rattle.std.proofs.lemmas.Bool.{leb-true}
use Rattle.tessellator.specs.State.{MeshState}
use Rattle.tessellator.specs.Triangles.{Triangle, triples}
use Rattle.cutting.specs.Cutting.{cut, span, Narrow}
use Rattle.cutting.specs.Outcome.{Outcome, left, on_front, space_for, placed_if, placed, too_wide, counted, run_count, unless_wide, in_runs}
use Rattle.cutting.specs.Parts.{less, lowered, parts_from, Within}
use Rattle.cutting.specs.declared.fault.CutFault.{CutFault}
use Rattle.cutting.specs.declared.part.Part.{Part}
use Rattle.cutting.proofs.Cuts.{joined_cut}
use Rattle.cutting.proofs.Finished.{Proper}
use Rattle.cutting.proofs.Parting.{length-parts, length-lowered}
use Rattle.tessellator.proofs.Triples.{length-triples}

less_zero : (is : List ℕ) → less 0 is ≡ is
less_zero [] = refl
less_zero (i ∷ is) = let a : i - 0 ≡ i = omega arith in let b = less_zero is in cc

set_front : {X : Type 0} (memory : List X) (x : X) → 0 < length memory → set memory 0 x ≡ on_front (x ∷ []) memory
set_front [] x h = absurd (omega arith)
set_front (y ∷ ys) x h = refl

-- what there is space for
space_ok : (a b : Bool) (t : Unit {0}) (f g : CutFault) → Ok t ≡ cond a (cond b (Ok tt) (Err g)) (Err f) → (a ≡ true) × (b ≡ true)
space_ok true true t f g e = (refl, refl)
space_ok true false t f g e = absurd (let z : ◌≡◌ {A = ℕ} 0 1 = cc in omega arith)
space_ok false b t f g e = absurd (let z : ◌≡◌ {A = ℕ} 0 1 = cc in omega arith)

pub has_space : (i p memory table : ℕ) (t : Unit {0}) → Ok t ≡ space_for i p memory table → (i ≤ memory) × (p ≤ table)
has_space i p memory table t e =
    let (a, b) = space_ok (leb i memory) (leb p table) t CutFault.NoIndexSpace CutFault.TableTooShort e in
    (leb-true i memory a, leb-true p table b)

placed_by : (is : List ℕ) (ps : List Part) (memory : List ℕ) (table : List Part) (r : Result (Unit {0}) CutFault) →
    r ≡ space_for (length is) (length ps) (length memory) (length table) → placed_if r is ps memory table ≡ placed is ps memory table
placed_by is ps memory table r e = ap (λ r. placed_if r is ps memory table) e

-- all in one part
pub whole_placed : (is source memory written : List ℕ) (table : List Part) (p q : Part) (t : Unit {0}) → source ≡ is → q ≡ p → Ok t ≡ space_for (length source) 1 (length memory) (length table) →
    written ≡ on_front (less 0 source) memory → left (Ok 1) written (set table 0 q) ≡ placed is (p ∷ []) memory table
whole_placed is source memory written table p q t same part e w =
    let there = (has_space (length source) 1 (length memory) (length table) t e).1 in
    let a : written ≡ on_front is memory = w ∙ ap (λ l. on_front l memory) (less_zero source ∙ same) in
    let b : set table 0 q ≡ on_front (p ∷ []) table = set_front table q there ∙ ap (λ x. on_front (x ∷ []) table) part in
    let c = placed_by is (p ∷ []) memory table (Ok t) (e ∙ ap (λ l. space_for (length l) 1 (length memory) (length table)) same) in
    rw (a, b) c

-- a mesh of few vertices has small indices
pub few_named : (m : MeshState) → Proper m → length m.vertices ≤ 65535 → Within 0 m.indices
few_named m proper few k h = (omega arith, omega (arith, proper.named k h))

-- what a count says
counted_ok : (wide : Option ℕ) (n count : ℕ) → Ok count ≡ counted wide n → (wide ≡ None) × (count ≡ n)
counted_ok None n count e = (refl, cc)
counted_ok (Some k) n count e = absurd (let z : ◌≡◌ {A = ℕ} 0 1 = cc in omega arith)

narrow_ok : (b : Bool) (k : ℕ) (rest : Option ℕ) → cond b rest (Some k) ≡ None → (b ≡ true) × (rest ≡ None)
narrow_ok true k rest e = (refl, e)
narrow_ok false k rest e = absurd (let z : ◌≡◌ {A = ℕ} 0 1 = cc in omega arith)

pub all_narrow : (k : ℕ) (ts : List Triangle) → too_wide k ts ≡ None → AllByRecursion Narrow ts
all_narrow k [] e = tt
all_narrow k (t ∷ ts) e =
    let (here, rest) = narrow_ok (leb (span (t ∷ [])) 65535) k (too_wide (k + 1) ts) e in
    (leb-true _ _ here, all_narrow (k + 1) ts rest)

pub run_count_lem : (ts : List Triangle) (count : ℕ) → Ok count ≡ run_count ts → AllByRecursion Narrow ts × (count ≡ length (cut ts))
run_count_lem ts count e =
    let (none, same) = counted_ok (too_wide 0 ts) (length (cut ts)) count e in
    (all_narrow 0 ts none, same)

-- in runs, whose triangles are the mesh's
module _ (m : MeshState) (ts : List Triangle) (memory : List ℕ) (table : List Part) (same : ts ≡ triples m.indices) where
  abbrev runs : List (List Triangle)
  runs = cut (triples m.indices)

  abbrev rows : List Part
  rows = parts_from 0 m.texture runs

  refused_by : (wide : Option ℕ) (n : ℕ) (o : Outcome) (fault : CutFault) → Err fault ≡ counted wide n → left (Err fault) memory table ≡ unless_wide wide o memory table
  refused_by None n o fault e = absurd (let z : ◌≡◌ {A = ℕ} 0 1 = cc in omega arith)
  refused_by (Some k) n o fault e = ap (λ r. left r memory table) e

  pub runs_refused : (fault : CutFault) → Err fault ≡ run_count ts → left (Err fault) memory table ≡ in_runs m memory table
  runs_refused fault e = refused_by (too_wide 0 (triples m.indices)) (length runs) (placed (lowered runs) rows memory table) fault (e ∙ ap run_count same)

  -- no triangle is too wide, and there is space or not
  module _ (size count : ℕ) (sized : size ≡ length m.indices) (proper : Proper m) (e : Ok count ≡ run_count ts) where
    none : (too_wide 0 (triples m.indices) ≡ None) × (count ≡ length runs)
    none = counted_ok _ _ _ (e ∙ ap run_count same)

    settled : placed (lowered runs) rows memory table ≡ in_runs m memory table
    settled = sym (ap (λ wide. unless_wide wide (placed (lowered runs) rows memory table) memory table) none.0)

    space_same : space_for size count (length memory) (length table) ≡ space_for (length (lowered runs)) (length rows) (length memory) (length table)
    space_same =
        let i : size ≡ length (lowered runs) =
        sized ∙ omega (arith, proper.threes, length-lowered runs, ap length (joined_cut (triples m.indices)), length-triples m.indices) in
        let p : count ≡ length rows = none.1 ∙ sym (length-parts 0 m.texture runs) in
        ap (λ n. space_for n count (length memory) (length table)) i ∙ ap (λ n. space_for (length (lowered runs)) n (length memory) (length table)) p

    pub runs_declined : (fault : CutFault) → Err fault ≡ space_for size count (length memory) (length table) → left (Err fault) memory table ≡ in_runs m memory table
    runs_declined fault s = placed_by (lowered runs) rows memory table (Err fault) (s ∙ space_same) ∙ settled

    pub runs_placed : (t : Unit {0}) (written : List ℕ) (listed : List Part) → Ok t ≡ space_for size count (length memory) (length table) →
        written ≡ on_front (lowered (cut ts)) memory → listed ≡ on_front (parts_from 0 m.texture (cut ts)) table → left (Ok count) written listed ≡ in_runs m memory table
    runs_placed t written listed s w l =
        let n : count ≡ length rows = none.1 ∙ sym (length-parts 0 m.texture runs) in
        let a : written ≡ on_front (lowered runs) memory = w ∙ ap (λ ts. on_front (lowered (cut ts)) memory) same in
        let b : listed ≡ on_front rows table = l ∙ ap (λ ts. on_front (parts_from 0 m.texture (cut ts)) table) same in
        rw (a, b, n) (placed_by (lowered runs) rows memory table (Ok t) (s ∙ space_same) ∙ settled)
