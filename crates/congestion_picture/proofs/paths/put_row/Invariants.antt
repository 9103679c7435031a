use Rattle.std.specs.Prelude.{flat_map}
use Rattle.std.specs.List.{range_with_len}
use Rattle.gr_desk.specs.Pens.{HasSameDesk, Puts, pen_told}
use Rattle.congestion_picture.specs.Paths.{cell_text}
use Rattle.congestion_picture.proofs.paths.put_row.Given as goal

abbrev pub invariant-loop-column : goal.invariant-loop-column
invariant-loop-column g l = record {
  same_desk : HasSameDesk l.fn.pen l.pen;
  puts : Puts (pen_told g.D.Desk.told l.fn.pen) (pen_told g.D.Desk.told l.pen) (flat_map (cell_text l.map l.paint l.row) (range_with_len 0 l.column));
}
