-- What a path and a list of places hold, in memory that is lent: at most 1,048,576 items.
use Rattle.std.specs.Prelude.{ℕ}
use Rattle.slice_vec.specs.Held as list
use Rattle.path.specs.declared.lent.Lent.{Lent}
use Rattle.path.specs.declared.point.PathPoint.{PathPoint}
pub use Rattle.slice_vec.specs.Held.{Held, empty_in, emptied, rewritten}
unfoldable pub use Rattle.slice_vec.specs.Held.{extended}

abbrev pub held : {X : Type 0} → Lent X → Held X
held l = list.held l.list

-- a path is such a list of points
abbrev pub Path : Type 0
Path = Lent PathPoint

-- the space left
abbrev pub room : {X : Type 0} → Held X → ℕ
room h = list.room 1048576 h
