-- The list of a file's figures, record by record.
use Rattle.std.specs.Prelude.{◌≡◌, ◌+◌, ◌<◌, ◌≤◌, List, [], ◌∷◌, length, Some, None, Ok, Err, Option, Result}
use Rattle.path.specs.Held.{Held}
use Rattle.path.specs.declared.point.PathPoint.{PathPoint}
use Rattle.tessellator.specs.State.{MeshState}
use Rattle.tessellator.specs.declared.fault.Appended.{Appended}
use Rattle.drawing_file.specs.Runs.{RunState, Halt, Account, file, at_byte}
use Rattle.drawing_file.specs.declared.runner.Figure.{Figure}

-- the sizes of all figures, how the file ends, and what it leaves
pub record Listing : Type 0 where
  pub figures : List Appended
  pub end : Result (Unit {0}) Halt
  pub path : Held PathPoint
  pub mesh : MeshState

-- no figure more
abbrev pub ending : Result (Unit {0}) Halt → RunState → Listing
ending end s = record { figures = []; end = end; path = s.path; mesh = s.mesh }

abbrev pub before : Appended → Listing → Listing
before size l = record { figures = size ∷ l.figures; end = l.end; path = l.path; mesh = l.mesh }

abbrev pub listing : Account Listing
listing = record {
  end = λ s. ending (Ok tt) s;
  figure = λ figure _ l. before figure.size l;
  refusal = λ halt s. ending (Err halt) s;
}

-- the list of what is left of a file
abbrev pub listed : RunState → Listing
listed s = file listing s

-- A figure heads the list, and the list of what is left follows it. Else the list has no figure, and ends so.
abbrev pub Heads : Result (Option Figure) Halt → Listing → RunState → Type 0
Heads (Ok (Some figure)) l s = l ≡ before figure.size (listed s)
Heads (Ok None) l s = l ≡ ending (Ok tt) s
Heads (Err halt) l s = l ≡ ending (Err halt) s

-- nothing was drawn
pub record Undrawn (s t : RunState) : Type 0 where
  pub mesh : t.mesh ≡ s.mesh
  pub figures : t.figures ≡ s.figures

-- a figure was drawn: figures are numbered one after the other
pub record Drew (figure : Figure) (s t : RunState) : Type 0 where
  pub number : figure.number ≡ s.figures + 1
  pub figures : t.figures ≡ figure.number
  pub onward : length t.rest < length s.rest

-- At the end all bytes are read, and a refusal is at the first byte that is not.
abbrev pub Leaves : Result (Option Figure) Halt → RunState → RunState → Type 0
Leaves (Ok (Some figure)) s t = Drew figure s t
Leaves (Ok None) s t = Undrawn s t × (t.rest ≡ [])
Leaves (Err halt) s t = Undrawn s t × (s.size ≤ 49152 → halt.at ≡ at_byte t)
