-- A record that is read is written at the front.
use Rattle.std.proofs.Common.{◌≡◌, ℕ, ◌+◌, ◌*◌, ◌/◌, ◌%◌, ◌<◌, ◌≤◌, Bool, true, false, cond, eqb, ltb, List, [], ◌∷◌, ◌++◌, length, get_or, take, drop, Ok, Err, Result, sym, refl, ap, ◌∙◌, arith}
use Rattle.std.proofs.lemmas.List.{take-append-drop, length-take-le}
use Rattle.std.proofs.lemmas.Bool.{eqb-true, ltb-false}
use Rattle.drawing_file.specs.Faults.{Cause, cause_of}
use Rattle.drawing_file.specs.Format.{Item, line, paint, line_of, painting, sorted, followed, first_of, headed, written, Fronts}
use Rattle.drawing_file.specs.declared.fault.FileFault.TheVariants.{CutShort, UnknownTag, WrongLength, UnknownKind}

line_is : (p : Bool) (b : List ℕ) (i : Item) → cond p (Ok (line b)) (Err (cause_of WrongLength)) ≡ Ok i → written i ≡ headed 2 b
line_is true b i e = let same : line b ≡ i = cc in ap written (sym same)
line_is false b i e = let z : ◌≡◌ {A = ℕ} 0 1 = cc in absurd (omega arith)

paint_is : (p q : Bool) (b : List ℕ) (i : Item) → cond p (cond q (Err (cause_of UnknownKind)) (Ok (paint b))) (Err (cause_of WrongLength)) ≡ Ok i → written i ≡ headed 5 b
paint_is true true b i e = let z : ◌≡◌ {A = ℕ} 0 1 = cc in absurd (omega arith)
paint_is true false b i e = let same : paint b ≡ i = cc in ap written (sym same)
paint_is false q b i e = let z : ◌≡◌ {A = ℕ} 0 1 = cc in absurd (omega arith)

tagged : (p q : Bool) (tag : ℕ) (b : List ℕ) (i : Item) → (p ≡ true → tag ≡ 2) → (q ≡ true → tag ≡ 5) → cond p (line_of b) (cond q (painting b) (Err (cause_of UnknownTag))) ≡ Ok i → written i ≡ headed tag b
tagged true q tag b i two five e = line_is (eqb (length b % 8) 0) b i e ∙ ap (λ t. headed t b) (sym (two refl))
tagged false true tag b i two five e = paint_is (eqb (length b) 17) (ltb 2 (get_or b 16 0)) b i e ∙ ap (λ t. headed t b) (sym (five refl))
tagged false false tag b i two five e = let z : ◌≡◌ {A = ℕ} 0 1 = cc in absurd (omega arith)

sorted_is : (tag : ℕ) (b : List ℕ) (i : Item) → sorted tag b ≡ Ok i → written i ≡ headed tag b
sorted_is tag b i e = tagged (eqb tag 2) (eqb tag 5) tag b i (eqb-true tag 2) (eqb-true tag 5) e

-- the bytes of the length are those of the record's bytes
headed_is : (tag high low : ℕ) (bytes : List ℕ) → low < 256 → high * 256 + low ≤ length bytes →
    headed tag (take (high * 256 + low) bytes) ++ drop (high * 256 + low) bytes ≡ tag ∷ high ∷ low ∷ bytes
headed_is tag high low bytes small fits =
    let n = high * 256 + low in
    let long : length (take n bytes) ≡ n = length-take-le n bytes fits in
    let quotient : length (take n bytes) / 256 ≡ high = ap (λ k. k / 256) long ∙ omega arith in
    let remainder : length (take n bytes) % 256 ≡ low = ap (λ k. k % 256) long ∙ omega arith in
    λ i. tag ∷ quotient i ∷ remainder i ∷ take-append-drop n bytes i

followed_front : (tag high low : ℕ) (bytes : List ℕ) (r : Result Item Cause) → low < 256 → high * 256 + low ≤ length bytes →
    ((i : Item) → r ≡ Ok i → written i ≡ headed tag (take (high * 256 + low) bytes)) →
    Fronts (tag ∷ high ∷ low ∷ bytes) (followed r (drop (high * 256 + low) bytes))
followed_front tag high low bytes (Ok i) small fits is =
    sym (ap (λ l. l ++ drop (high * 256 + low) bytes) (is i refl) ∙ headed_is tag high low bytes small fits)
followed_front tag high low bytes (Err why) small fits is = tt

cut_front : (p : Bool) (tag high low : ℕ) (bytes : List ℕ) → low < 256 → (p ≡ false → high * 256 + low ≤ length bytes) →
    Fronts (tag ∷ high ∷ low ∷ bytes) (cond p (Err (cause_of CutShort)) (followed (sorted tag (take (high * 256 + low) bytes)) (drop (high * 256 + low) bytes)))
cut_front true tag high low bytes small fits = tt
cut_front false tag high low bytes small fits =
    let part = take (high * 256 + low) bytes in
    followed_front tag high low bytes (sorted tag part) small (fits refl) (sorted_is tag part)

pub fronts : (b : List ℕ) → get_or b 2 0 < 256 → Fronts b (first_of b)
fronts [] h = tt
fronts (tag ∷ []) h = tt
fronts (tag ∷ high ∷ []) h = tt
fronts (tag ∷ high ∷ low ∷ bytes) h = cut_front (ltb (length bytes) (high * 256 + low)) tag high low bytes h (ltb-false (length bytes) (high * 256 + low))
