use Rattle.std.specs.Prelude.{flat_map, slice_index}
use Rattle.std.specs.List.{range_with_len}
use Rattle.gr_desk.specs.Pens.{HasSameDesk, Puts, pen_told}
use Rattle.congestion_picture.specs.Tables.{line_of_number}
use Rattle.congestion_picture.proofs.table.put_lines.Given as goal

abbrev pub invariant-loop-number : goal.invariant-loop-number
invariant-loop-number g l = record {
  same_desk : HasSameDesk l.fn.pen l.pen;
  puts : Puts (pen_told g.D.Desk.told l.fn.pen) (pen_told g.D.Desk.told l.pen)
      (flat_map (line_of_number l.grid (slice_index l.loads) l.shown l.each) (range_with_len 0 l.number));
}
