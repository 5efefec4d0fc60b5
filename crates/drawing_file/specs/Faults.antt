-- The refusals of a drawing file by their layer and number.
use Rattle.std.specs.Prelude.{ℕ, List, [], Ok, Err, Result}
use Rattle.emath.specs.Answers as answers
use Rattle.emath.specs.Answers.{Answer}
use Rattle.path.specs.Faults as of_path
use Rattle.tessellator.specs.Faults as of_figure
use Rattle.drawing_file.specs.declared.fault.FileFault.{FileFault}
use Rattle.drawing_file.specs.declared.fault.FileFault.TheVariants.{CutShort, UnknownTag, WrongLength, PaintWithoutPath, FilledOpenLine, UnknownKind, Path, Figure}
use Rattle.drawing_file.specs.declared.fault.Layer.{Layer}
use Rattle.drawing_file.specs.declared.fault.Layer.TheVariants as layer

-- a refusal, with the values that it names
pub record Cause : Type 0 where
  pub layer : Layer
  pub number : ℕ
  pub values : List ℕ

abbrev pub cause : Layer → ℕ → List ℕ → Cause
cause layer number values = record { layer = layer; number = number; values = values }

abbrev pub cause_of : FileFault → Cause
cause_of CutShort = cause layer.File 11 []
cause_of UnknownTag = cause layer.File 12 []
cause_of WrongLength = cause layer.File 13 []
cause_of PaintWithoutPath = cause layer.File 14 []
cause_of FilledOpenLine = cause layer.File 15 []
cause_of UnknownKind = cause layer.File 16 []
cause_of (Path fault) = cause layer.Path (of_path.number_of fault) []
cause_of (Figure fault) = cause layer.Figure (of_figure.number_of fault) []

abbrev pub told : {A : Type 0} → Result A FileFault → Result A Cause
told (Ok value) = Ok value
told (Err fault) = Err (cause_of fault)

-- what a layer below answers, seen from the file
abbrev pub heard : {A : Type 0} → Layer → Answer A → Result A Cause
heard layer (answers.accepted value) = Ok value
heard layer (answers.refused number values) = Err (cause layer number values)
