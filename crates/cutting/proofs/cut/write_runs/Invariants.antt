use Rattle.std.proofs.Common.{map}
use Rattle.std.specs.List.{AllByRecursion}
use Rattle.cutting.specs.Cutting.{cut, Legal}
use Rattle.cutting.specs.Parts.{lowered, parts_from}
use Rattle.tessellator.specs.Triangles.{named}
use Rattle.cutting.proofs.Writing.{Writing}
use Rattle.cutting.proofs.cut.write_runs.Given as goal

abbrev pub invariant-loop-part : goal.invariant-loop-part
invariant-loop-part l =
    let all = cut (map named l.fn.triangles) in
    let runs = cut (map named l.runs.0.now) in
    AllByRecursion Legal runs
    × Writing (lowered all) l.initial.indices l.first_index l.indices (lowered runs)
    × Writing (parts_from 0 l.«texture_id» all) l.initial.parts l.part-index l.parts (parts_from l.first_index l.«texture_id» runs)
