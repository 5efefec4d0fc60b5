use Rattle.std.proofs.Common.{◌≡◌, ◌++◌, map, take, drop}
use Rattle.slice_vec.proofs.map.write_each.Given as goal

-- the places before the index are written
abbrev pub invariant-loop-i : goal.invariant-loop-i
invariant-loop-i g l = l.items ≡ map (g.M.Map.image l.by) (take l.i l.sources) ++ drop l.i l.fn.items
