-- Running the records of a file.
use Rattle.std.specs.Prelude.{ℕ, zero, suc, ◌+◌, ◌-◌, if◌then◌else◌, List, length, Some, None, Ok, Err, Option, Result, ◌==◌, nat_lt}
use Rattle.emath.specs.declared.plane.Pos2.{Pos2}
use Rattle.path.specs.Held.{Held, held, emptied}
use Rattle.path.specs.declared.point.PathPoint.{PathPoint}
use Rattle.ecolor.specs.Colors.{is_transparent}
use Rattle.tessellator.specs.Outcome.{Outcome}
use Rattle.tessellator.specs.State.{MeshState, mesh_state}
use Rattle.tessellator.specs.declared.fault.Appended.{Appended}
use Rattle.drawing_file.specs.Faults.{Cause, cause_of, heard}
use Rattle.drawing_file.specs.Format.{Item, line, paint, First, first_of}
use Rattle.drawing_file.specs.Replaced.{Replaced, replaced}
use Rattle.drawing_file.specs.Solids.{solid_outcome}
use Rattle.drawing_file.specs.Values.{paint_of}
use Rattle.drawing_file.specs.declared.decode.Paint.{Paint}
use Rattle.drawing_file.specs.declared.fault.FileFault.{FileFault}
use Rattle.drawing_file.specs.declared.fault.FileFault.TheVariants.{CutShort, PaintWithoutPath, FilledOpenLine}
use Rattle.drawing_file.specs.declared.fault.Layer.TheVariants as layer
use Rattle.drawing_file.specs.declared.runner.Figure.{Figure}
use Rattle.drawing_file.specs.declared.runner.Refusal.{Refusal}
use Rattle.drawing_file.specs.declared.runner.Runner.{Runner}
use Rattle.drawing_file.specs.declared.runner.Waiting.{Waiting}
use Rattle.drawing_file.specs.declared.runner.Waiting.TheVariants.{Nothing, OpenLine}

-- a file of so many bytes, of which the rest is not read yet, and what its records have made
pub record RunState : Type 0 where
  pub rest : List ℕ
  pub size : ℕ
  pub path : Held PathPoint
  pub places : List Pos2
  pub mesh : MeshState
  pub waiting : Waiting
  pub figures : ℕ

abbrev pub run_state : Runner → RunState
run_state r = record {
  rest = r.rest.now;
  size = r.size;
  path = held r.path.now;
  places = r.places.now;
  mesh = mesh_state r.mesh.now;
  waiting = r.waiting;
  figures = r.figures;
}

-- before the first record
abbrev pub started : List ℕ → Held PathPoint → List Pos2 → MeshState → RunState
started bytes path places mesh = record {
  rest = bytes;
  size = length bytes;
  path = path;
  places = places;
  mesh = mesh;
  waiting = Nothing;
  figures = 0;
}

-- the byte that the next record begins at
abbrev pub at_byte : RunState → ℕ
at_byte s = s.size - length s.rest

-- an answer, and the state afterwards
pub record Then (A : Type 0) : Type 0 where
  pub answer : A
  pub state : RunState

abbrev pub answered : {A : Type 0} → A → RunState → Then A
answered a s = record { answer = a; state = s }

-- what a record changes before it is passed
abbrev pub made : RunState → Held PathPoint → List Pos2 → MeshState → Waiting → RunState
made s path places mesh waiting = record {
  rest = s.rest;
  size = s.size;
  path = path;
  places = places;
  mesh = mesh;
  waiting = waiting;
  figures = s.figures;
}

-- A line replaces the path. Where it is refused, the path is empty and nothing waits.
abbrev pub after_line : Result (Unit {0}) Cause → RunState → Replaced → Then (Result (Option Appended) Cause)
after_line (Ok t) s l = answered (Ok None) (made s l.line.after l.places s.mesh OpenLine)
after_line (Err why) s l = answered (Err why) (made s l.line.after l.places s.mesh Nothing)

abbrev pub lined : RunState → Replaced → Then (Result (Option Appended) Cause)
lined s l = after_line (heard layer.Path l.line.answer) s l

-- paint uses the path up
abbrev pub after_stroke : Result Appended Cause → RunState → Outcome → Then (Result (Option Appended) Cause)
after_stroke (Ok size) s o = answered (Ok (Some size)) (made s (emptied o.path) s.places o.mesh Nothing)
after_stroke (Err why) s o = answered (Err why) (made s o.path s.places o.mesh s.waiting)

abbrev pub stroked : RunState → Outcome → Then (Result (Option Appended) Cause)
stroked s o = after_stroke (heard layer.Figure o.answer) s o

abbrev pub faulted : FileFault → RunState → Then (Result (Option Appended) Cause)
faulted fault s = answered (Err (cause_of fault)) s

abbrev pub painted : Waiting → RunState → Paint → Then (Result (Option Appended) Cause)
painted Nothing s p = faulted PaintWithoutPath s
painted OpenLine s p =
    if is_transparent p.fill
    then stroked s (solid_outcome p.feathering p.stroke s.path s.mesh)
    else faulted FilledOpenLine s

-- one record: a paint answers the size of its figure
abbrev pub stepped : RunState → Item → Then (Result (Option Appended) Cause)
stepped s (line b) = lined s (replaced b s.path s.places)
stepped s (paint b) = painted s.waiting s (paint_of b)

-- past a record, with so many figures so far
abbrev pub passed : RunState → List ℕ → ℕ → RunState
passed s after figures = record {
  rest = after;
  size = s.size;
  path = s.path;
  places = s.places;
  mesh = s.mesh;
  waiting = s.waiting;
  figures = figures;
}

-- a record that is refused is not passed
abbrev pub after_step : Result (Option Appended) Cause → RunState → List ℕ → Then (Result (Option Figure) Cause)
after_step (Ok None) s after = answered (Ok None) (passed s after s.figures)
after_step (Ok (Some size)) s after = answered (Ok (Some (record { number = s.figures + 1; size = size }))) (passed s after (s.figures + 1))
after_step (Err why) s after = answered (Err why) s

abbrev pub after_reading : Result First Cause → RunState → Then (Result (Option Figure) Cause)
after_reading (Ok f) s = after_step (stepped s f.item).answer (stepped s f.item).state f.after
after_reading (Err why) s = answered (Err why) s

-- the first record is run: a paint answers its figure
abbrev pub first_run : RunState → Then (Result (Option Figure) Cause)
first_run s = after_reading (first_of s.rest) s

-- a refusal, and the byte that it is at
pub record Halt : Type 0 where
  pub cause : Cause
  pub at : ℕ

abbrev pub halt_of : Refusal → Halt
halt_of r = record { cause = cause_of r.fault; at = r.at }

abbrev pub told_at : {A : Type 0} → Result A Refusal → Result A Halt
told_at (Ok value) = Ok value
told_at (Err r) = Err (halt_of r)

-- What the records of a file come to: at their end, at a figure, with what the records after it come to, and at a refusal.
pub record Account (B : Type 0) : Type 0 where
  pub end : RunState → B
  pub figure : Figure → RunState → B → B
  pub refusal : Halt → RunState → B

-- goes on after the record at a byte, by what running it answered and left
abbrev pub turn : {B : Type 0} → Account B → (RunState → B) → ℕ → Result (Option Figure) Cause → RunState → B
turn account go at (Ok None) s = go s
turn account go at (Ok (Some figure)) s = account.figure figure s (go s)
turn account go at (Err why) s = account.refusal (record { cause = why; at = at }) s

-- at most n records, one after the other
abbrev pub records : {B : Type 0} → Account B → ℕ → RunState → B
records account zero s = account.end s
records account (suc n) s = if length s.rest == 0 then account.end s else turn account (records account n) (at_byte s) (first_run s).answer (first_run s).state

-- all of them: a record takes a byte at least
abbrev pub along : {B : Type 0} → Account B → RunState → B
along account s = records account (length s.rest) s

-- the first byte too many
abbrev pub too_long : Halt
too_long = record { cause = cause_of CutShort; at = 49152 }

-- of a file that has more than 49,152 bytes nothing is drawn
abbrev pub file : {B : Type 0} → Account B → RunState → B
file account s = if nat_lt 49152 s.size then account.refusal too_long s else along account s

-- the first figure, or the end or the refusal before it
abbrev pub first_figure : Account (Then (Result (Option Figure) Halt))
first_figure = record {
  end = λ s. answered (Ok None) s;
  figure = λ figure s _. answered (Ok (Some figure)) s;
  refusal = λ halt s. answered (Err halt) s;
}

abbrev pub next : RunState → Then (Result (Option Figure) Halt)
next s = file first_figure s
