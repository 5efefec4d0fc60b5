-- What a call answers: a value, or a refusal by its number, with the values that it names.
use Rattle.std.specs.Prelude.{ℕ, List}

pub data Answer (A : Type 0) : Type 0 where
  accepted : A → Answer A
  refused : ℕ → List ℕ → Answer A
