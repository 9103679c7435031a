use Rattle.std.proofs.Common.{◌∙◌}
use Rattle.gr_desk.proofs.Pens.{puts-more}
use Rattle.congestion_picture.specs.CutLines.{cut_line}
use Rattle.congestion_picture.proofs.cut_lines.put_cut_lines.Goals as goal

pub loop-tile_edge-preserved : goal.loop-tile_edge-preserved
loop-tile_edge-preserved g c = record {
  same_desk = c.put_cut_line.ensures.same_desk ∙ c.loop-tile_edge.invariant.same_desk;
  puts = puts-more (cut_line c.args.map.now.raster) c.args.cut.now c.loop-tile_edge.tile_edge-index _ c.loop-tile_edge-test.true c.loop-tile_edge.invariant.puts c.put_cut_line.ensures.puts;
}
