use Rattle.std.proofs.Common.{arith}
use Rattle.grid_base.specs.Numbers.{rows}
use Rattle.congestion_picture.proofs.Rows.{part_of_tile}
use Rattle.congestion_picture.proofs.cut_lines.put_cut_line.Goals as goal

pub overflow_sub-rows-2 : goal.overflow_sub-rows-2
overflow_sub-rows-2 g c =
    let r = c.args.map.now.raster in
    omega (arith, c.rows.ensures, part_of_tile (rows r.size) r.side c.place_of-place.result.row r.some c.place_of-place.ensures.inside.1)
