use Rattle.std.proofs.Common.{[], set, ap, ◌∙◌, arith}
use Rattle.drawing_file.specs.Values.{first_place}
use Rattle.drawing_file.proofs.Placing.{next_place}
use Rattle.drawing_file.proofs.decode.read_places.Goals as goal

pub loop-i-preserved : goal.loop-i-preserved
loop-i-preserved c =
    ap (set c.loop-i.out c.loop-i.i) c.place_of.ensures
    ∙ next_place first_place c.args.places.now c.loop-i.i [] c.args.out.now c.loop-i.out (omega arith) (omega arith) c.loop-i.invariant
