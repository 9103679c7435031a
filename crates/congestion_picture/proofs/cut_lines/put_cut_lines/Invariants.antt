use Rattle.std.proofs.Common.{take}
use Rattle.std.specs.Prelude.{flat_map}
use Rattle.gr_desk.specs.Pens.{HasSameDesk, Puts, pen_told}
use Rattle.congestion_picture.specs.CutLines.{cut_line}
use Rattle.congestion_picture.proofs.cut_lines.put_cut_lines.Given as goal

abbrev pub invariant-loop-tile_edge : goal.invariant-loop-tile_edge
invariant-loop-tile_edge g l = record {
  same_desk : HasSameDesk l.fn.pen l.pen;
  puts : Puts (pen_told g.D.Desk.told l.fn.pen) (pen_told g.D.Desk.told l.pen) (flat_map (cut_line l.map.raster) (take l.tile_edge-index l.cut));
}
