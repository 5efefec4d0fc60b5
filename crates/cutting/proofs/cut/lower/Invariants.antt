use Rattle.std.proofs.Common.{drop}
use Rattle.cutting.specs.Parts.{less}
use Rattle.cutting.proofs.Writing.{Writing}
use Rattle.cutting.proofs.cut.lower.Given as goal

abbrev pub invariant-loop-i : goal.invariant-loop-i
invariant-loop-i l = Writing (less l.least l.source) l.initial.indices l.i l.indices (less l.least (drop l.i l.source))
