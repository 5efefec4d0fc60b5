use Rattle.std.proofs.Common.{◌*◌, length, ap, arith}
use Rattle.tessellator.specs.Kinds.{vertex_count, index_count}
use Rattle.tessellator.proofs.Growth.{vertices_added, index_room_kept}
use Rattle.tessellator.proofs.Joining.{length-rows}
use Rattle.tessellator.proofs.draw.draw_rows.Goals as goal

pub add_triangles-requires : goal.add_triangles-requires
add_triangles-requires g c =
    let kind = c.args.kind in
    let all = ap length c.as_slice-points.ensures in
    let rows = length-rows (g.B.Brush.paints c.args.brush.now) c.args.rows.now c.as_slice-points.result.now in
    let more = vertices_added _ _ _ c.add_rows.ensures in
    let same = index_room_kept _ _ _ c.add_rows.ensures in
    let vertices = ap (vertex_count kind) all in
    let indices = ap (index_count kind) all in
    let by_row = ap (λ n. n * length c.args.rows.now) all in
    record { enough = omega (arith, c.requires.enough); vertices = omega (arith, c.next_vertex-base.ensures, c.requires.all_rows); space = omega (arith, c.requires.fits.indices) }
