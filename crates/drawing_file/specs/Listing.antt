-- The lines of a listing.
use Rattle.std.specs.Prelude.{ℕ, List, ◌++◌, codes, decimal}
use Rattle.drawing_file.specs.Faults.{cause_of}
use Rattle.drawing_file.specs.declared.fault.Layer.{Layer}
use Rattle.drawing_file.specs.declared.fault.Layer.TheVariants.{File, Path, Figure as OfFigure}
use Rattle.drawing_file.specs.declared.listing.Parts.{Parts}
use Rattle.drawing_file.specs.declared.runner.Figure.{Figure}
use Rattle.drawing_file.specs.declared.runner.Refusal.{Refusal}

-- figure 1: 8 vertices, 30 indices
abbrev pub figure_line : Figure → List ℕ
figure_line f =
    codes "figure " ++ (decimal f.number ++ (codes ": " ++ (decimal f.size.vertices ++ (codes " vertices, " ++ (decimal f.size.indices ++ codes " indices")))))

abbrev pub layer_word : Layer → List ℕ
layer_word File = codes "file"
layer_word Path = codes "path"
layer_word OfFigure = codes "figure"

-- refused: file 14 at byte 0
abbrev pub refusal_line : Refusal → List ℕ
refusal_line r =
    codes "refused: " ++ (layer_word (cause_of r.fault).layer ++ (codes " " ++ (decimal (cause_of r.fault).number ++ (codes " at byte " ++ decimal r.at))))

-- parts: 1
abbrev pub parts_line : Parts → List ℕ
parts_line p = codes "parts: " ++ decimal p.0
