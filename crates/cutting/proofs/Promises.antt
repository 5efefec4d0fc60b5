-- What holds of every outcome of a cutting.
use Rattle.std.proofs.Common.{◌≡◌, ℕ, ◌+◌, ◌<◌, ◌≤◌, leb, List, [], ◌∷◌, length, get_or, drop, Some, None, Ok, Err, Option, Result, sym, refl, ap, ◌∙◌, subst, arith}
use Rattle.std.specs.List.{AllByRecursion}
use Rattle.std.proofs.lemmas.List.{get_or_append_left, take_at}
use Rattle.std.proofs.lemmas.Bool.{cond_both, leb-true}
use Rattle.emath.specs.Answers.{Answer, accepted, refused}
use Rattle.tessellator.specs.State.{MeshState}
use Rattle.tessellator.specs.Triangles.{Triangle, flat, triples}
use Rattle.cutting.specs.Cutting.{Cutting, cut, joined, Narrow}
use Rattle.cutting.specs.Outcome.{Outcome, left, on_front, space_for, placed_if, placed, too_wide, unless_wide, in_one, in_runs, cutting}
use Rattle.cutting.specs.Parts.{whole, lowered, parts_from}
use Rattle.cutting.specs.Promises.{Fewest, Complete, Faithful, SoundPart, InRow}
use Rattle.cutting.specs.declared.fault.CutFault.{CutFault}
use Rattle.cutting.specs.declared.part.Part.{Part}
use Rattle.cutting.proofs.Cuts.{cut_few, cut_cuts, joined_cut}
use Rattle.cutting.proofs.Finished.{Proper}
use Rattle.cutting.proofs.Lying.{Lies, lies, in_row}
use Rattle.cutting.proofs.Parting.{length-parts}
use Rattle.cutting.proofs.Splitting.{all_narrow}
use Rattle.tessellator.proofs.Triples.{flat_triples}

-- To show P of every outcome: of a refusal, of one part, and of runs.
module _ (P : Outcome → Type 0) (m : MeshState) (memory : List ℕ) (table : List Part) (declined : (fault : CutFault) → P (left (Err fault) memory table)) where
  abbrev Placed : List ℕ → List Part → Type 0
  Placed is ps = P (left (Ok (length ps)) (on_front is memory) (on_front ps table))

  of_placed : (r : Result (Unit {0}) CutFault) (is : List ℕ) (ps : List Part) → Placed is ps → P (placed_if r is ps memory table)
  of_placed (Ok t) is ps p = p
  of_placed (Err fault) is ps p = declined fault

  of_narrow : (wide : Option ℕ) (o : Outcome) → (wide ≡ None → P o) → P (unless_wide wide o memory table)
  of_narrow None o p = p refl
  of_narrow (Some k) o p = declined (CutFault.Span k)

  pub of_each : (length m.vertices ≤ 65535 → Placed m.indices (whole m ∷ [])) →
      (AllByRecursion Narrow (triples m.indices) → Placed (lowered (cut (triples m.indices))) (parts_from 0 m.texture (cut (triples m.indices)))) → P (cutting m memory table)
  of_each one runs =
      let is = lowered (cut (triples m.indices)) in
      let ps = parts_from 0 m.texture (cut (triples m.indices)) in
      cond_both (leb (length m.vertices) 65535) (in_one m memory table) (in_runs m memory table) P
      (λ few. of_placed (space_for (length m.indices) 1 (length memory) (length table)) m.indices (whole m ∷ []) (one (leb-true _ _ few)))
      (λ many. of_narrow (too_wide 0 (triples m.indices)) (placed is ps memory table)
      (λ none. of_placed (space_for (length is) (length ps) (length memory) (length table)) is ps (runs (all_narrow 0 (triples m.indices) none))))

refuses_none : {A : Type 0} (number n : ℕ) (values : List ℕ) → refused number values ≡ accepted n → A
refuses_none number n values e = absurd (let z : ◌≡◌ {A = ℕ} 0 1 = cc in omega arith)

some_run : (ts : List Triangle) (runs : List (List Triangle)) → 0 < length ts → Cutting ts runs → 1 ≤ length runs
some_run ts [] some (e, l) = absurd (let z = ap length e in omega arith)
some_run ts (run ∷ runs) some c = omega arith

fewest_cut : (m : MeshState) (memory : List ℕ) (table : List Part) → Fewest m (cutting m memory table)
fewest_cut m memory table =
    of_each (Fewest m) m memory table (λ fault n e. refuses_none _ n _ e)
    (λ few n e some runs c. let same : 1 ≡ n = cc in omega (arith, some_run _ runs some c))
    (λ narrow n e some runs c.
    let same : length (parts_from 0 m.texture (cut (triples m.indices))) ≡ n = cc in
    let least-of = subst (λ ts. length (cut ts) ≤ length runs) c.0 (cut_few runs c.1) in
    omega (arith, least-of, length-parts 0 m.texture (cut (triples m.indices))))

-- the runs' indices are the mesh's
joined_flat : (m : MeshState) → Proper m → flat (joined (cut (triples m.indices))) ≡ m.indices
joined_flat m proper = ap flat (joined_cut (triples m.indices)) ∙ flat_triples m.indices proper.threes

one_stands : (m : MeshState) (memory : List ℕ) (table : List Part) → Proper m → length m.vertices ≤ 65535 → SoundPart m (left (Ok 1) (on_front m.indices memory) (on_front (whole m ∷ []) table)) (whole m)
one_stands m memory table proper few = record {
  textured = refl;
  triangles = proper.threes;
  small = few;
  held = omega arith;
  same = λ j h. let at : 0 + j < length m.indices = omega arith in
      let e = get_or_append_left m.indices (drop (length m.indices) memory) 0 (0 + j) at in
      omega (arith, e);
  within = λ j h. let at : 0 + j < length m.indices = omega arith in omega (arith, proper.named (0 + j) at);
}

run_stands : (m : MeshState) (memory : List ℕ) (table : List Part) (answer : Answer ℕ) (p : Part) → Proper m → AllByRecursion Narrow (triples m.indices) → Lies 0 m.texture (cut (triples m.indices)) p →
    SoundPart m (record { answer = answer; indices = on_front (lowered (cut (triples m.indices))) memory; parts = table }) p
run_stands m memory table answer p proper narrow l =
    let runs = cut (triples m.indices) in
    let is : flat (joined runs) ≡ m.indices = joined_flat m proper in
    let from : p.first_index ≡ l.offset = omega (arith, l.first) in
    record {
      textured = l.textured;
      triangles = l.triangles;
      small = l.small (cut_cuts (triples m.indices) narrow).1;
      held = l.held (length m.vertices) (subst (λ xs. (i : ℕ) → i < length xs → get_or xs i 0 < length m.vertices) (sym is) proper.named);
      same = λ j h.
          let there : l.offset + j < length (lowered runs) = omega (arith, l.long) in
          let a = get_or_append_left (lowered runs) (drop (length (lowered runs)) memory) 0 (l.offset + j) there in
          let b = l.same j h in
          let c : get_or (flat (joined runs)) (l.offset + j) 0 ≡ get_or m.indices (l.offset + j) 0 = ap (λ xs. get_or xs (l.offset + j) 0) is in
          rw from (omega (arith, a, b, c));
      within = λ j h.
          let c : get_or (flat (joined runs)) (l.offset + j) 0 ≡ get_or m.indices (l.offset + j) 0 = ap (λ xs. get_or xs (l.offset + j) 0) is in
          rw from (omega (arith, l.within j h, c));
    }

faithful_cut : (m : MeshState) (memory : List ℕ) (table : List Part) → Proper m → Faithful m (cutting m memory table)
faithful_cut m memory table proper =
    let runs = cut (triples m.indices) in
    let rows = parts_from 0 m.texture runs in
    of_each (Faithful m) m memory table (λ fault n e. refuses_none _ n _ e)
    (λ few n e k d h.
    let same : 1 ≡ n = cc in
    let none : k ≡ 0 = omega arith in
    rw none (one_stands m memory table proper few))
    (λ narrow n e k d h.
    let same : length rows ≡ n = cc in
    let there : k < length rows = omega arith in
    let at = get_or_append_left rows (drop (length rows) table) d k there in
    subst (SoundPart m (left (Ok (length rows)) (on_front (lowered runs) memory) (on_front rows table))) (sym at)
    (run_stands m memory (on_front rows table) _ _ proper narrow (lies 0 m.texture runs k d (omega (arith, length-parts 0 m.texture runs)))))

complete_cut : (m : MeshState) (memory : List ℕ) (table : List Part) → Proper m → Complete m (cutting m memory table)
complete_cut m memory table proper =
    let runs = cut (triples m.indices) in
    let rows = parts_from 0 m.texture runs in
    of_each (Complete m) m memory table (λ fault n e. refuses_none _ n _ e)
    (λ few n e.
    let same : n ≡ 1 = cc in
    rw same (refl, omega arith))
    (λ narrow n e.
    let same : length rows ≡ n = cc in
    let front = take_at rows (drop (length rows) table) n same in
    let all : 0 + length (flat (joined runs)) ≡ length m.indices = omega (arith, ap length (joined_flat m proper)) in
    rw front (subst (InRow 0 rows) all (in_row 0 m.texture runs)))

-- of an outcome that is the cutting's
pub promised : (m : MeshState) (memory : List ℕ) (table : List Part) (o : Outcome) → o ≡ cutting m memory table → Proper m → Fewest m o × Complete m o × Faithful m o
promised m memory table o e proper = (
  subst (Fewest m) (sym e) (fewest_cut m memory table),
  subst (Complete m) (sym e) (complete_cut m memory table proper),
  subst (Faithful m) (sym e) (faithful_cut m memory table proper),
)
