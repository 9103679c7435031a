use Rattle.std.specs.Prelude.{flat_map, slice_index}
use Rattle.std.specs.List.{range_with_len}
use Rattle.gr_desk.specs.Pens.{HasSameDesk, Puts, pen_told}
use Rattle.congestion_picture.specs.Tables.{columns_of_layer}
use Rattle.congestion_picture.proofs.table.put_layers.Given as goal

abbrev pub invariant-loop-i : goal.invariant-loop-i
invariant-loop-i g l = record {
  same_desk : HasSameDesk l.fn.pen l.pen;
  puts : Puts (pen_told g.D.Desk.told l.fn.pen) (pen_told g.D.Desk.told l.pen)
      (flat_map (columns_of_layer l.grid (slice_index l.loads) l.each l.tile_edge) (range_with_len 0 l.i));
}
