use Rattle.std.proofs.Common.{map, ap, ◌∙◌}
use Rattle.path.specs.Held.{held}
use Rattle.drawing_file.specs.Values.{first_place}
use Rattle.drawing_file.proofs.Placing.{places_are, declined_where, replaced_where}
use Rattle.drawing_file.proofs.line.replace.Goals as goal

pub returns-then-n-memory : goal.returns-then-n-memory
returns-then-n-memory c =
    let b = c.args.body.now in
    let same = ap (map first_place) c.as_chunks.ensures.front ∙ places_are b in
    declined_where b (held c.args.path.now) _ c.args.memory.now _ _ c.as_chunks.ensures.front_len same c.clear.ensures _ c.if-n-memory.true c.crowded.ensures

pub returns : goal.returns
returns c =
    let b = c.args.body.now in
    let same = ap (map first_place) c.as_chunks.ensures.front ∙ places_are b in
    replaced_where b (held c.args.path.now) _ c.args.memory.now _ _ c.as_chunks.ensures.front_len same c.clear.ensures _ _ c.if-n-memory.false c.read_places.ensures c.add_open_points.ensures.outcome
