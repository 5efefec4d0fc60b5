use Rattle.std.proofs.Common.{◌≡◌, ◌++◌, map, take, drop}
use Rattle.drawing_file.specs.Values.{first_place}
use Rattle.drawing_file.proofs.decode.read_places.Given as goal

abbrev pub invariant-loop-i : goal.invariant-loop-i
invariant-loop-i l = l.out ≡ map first_place (take l.i l.places) ++ drop l.i l.initial.out
