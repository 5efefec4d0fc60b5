use Rattle.std.proofs.Common.{◌≡◌, ◌++◌, map, take, drop}
use Rattle.slice_vec.proofs.map.change_each.Given as goal

-- the items before the index are changed
abbrev pub invariant-loop-item : goal.invariant-loop-item
invariant-loop-item g l = l.items ≡ map (g.M.Map.image l.by) (take l.item-index l.fn.items) ++ drop l.item-index l.fn.items
