use Rattle.std.proofs.Common.{◌*◌, refl, ap, ◌∙◌, arith}
use Rattle.tessellator.specs.Kinds.{vertex_count, fan, polygon}
use Rattle.tessellator.specs.Triangles.{raised}
use Rattle.tessellator.specs.declared.kind.Kind.TheVariants.{Filled}
use Rattle.tessellator.specs.declared.stroke.Style.TheVariants.{Hard, Thin, Thick}
use Rattle.tessellator.proofs.Counts.{inside, further_on, filled_by}
use Rattle.tessellator.proofs.mesh.Mesh.add_filled.Goals as goal

pub add_polygon-requires : goal.add_polygon-requires
add_polygon-requires c =
    let k = inside c.args.style c.args.own.base c.args.own.points _ _ c.add_loop.ensures c.requires.enough c.requires.vertices c.requires.space in
    let v = ap (λ s. vertex_count (Filled s) c.args.own.points) c.in-Hard.is in
    record { enough = k.many; vertices = omega arith; space = k.indices }

pub add_fan-requires : goal.add_fan-requires
add_fan-requires c =
    let k = inside c.args.style c.args.own.base c.args.own.points _ _ c.add_loop.ensures c.requires.enough c.requires.vertices c.requires.space in
    let v = ap (λ s. vertex_count (Filled s) c.args.own.points) c.in-Thin.is in
    record { enough = k.many; row_exists = omega arith; vertices = omega arith; space = k.indices }

pub add_fan-requires-in-Thick : goal.add_fan-requires-in-Thick
add_fan-requires-in-Thick c =
    let k = inside c.args.style c.args.own.base c.args.own.points _ _ c.add_loop.ensures c.requires.enough c.requires.vertices c.requires.space in
    let v = ap (λ s. vertex_count (Filled s) c.args.own.points) c.in-Thick.is in
    record { enough = k.many; row_exists = omega arith; vertices = omega arith; space = k.indices }

pub returns-in-Hard : goal.returns-in-Hard
returns-in-Hard c =
    let n = c.args.own.points in
    filled_by c.args.style Hard c.args.own.base n _ _ _ (raised (2 * n) (polygon n)) c.in-Hard.is c.add_loop.ensures (c.add_polygon.ensures ∙ further_on c.args.own.base (2 * n) _ (polygon n)) refl

pub returns-in-Thin : goal.returns-in-Thin
returns-in-Thin c = filled_by c.args.style Thin c.args.own.base c.args.own.points _ _ _ (fan 3 2 c.args.own.points) c.in-Thin.is c.add_loop.ensures c.add_fan.ensures refl

pub returns-in-Thick : goal.returns-in-Thick
returns-in-Thick c = filled_by c.args.style Thick c.args.own.base c.args.own.points _ _ _ (fan 4 3 c.args.own.points) c.in-Thick.is c.add_loop.ensures c.add_fan-in-Thick.ensures refl
