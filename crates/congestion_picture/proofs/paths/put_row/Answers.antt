use Rattle.std.proofs.Common.{◌∙◌}
use Rattle.congestion_picture.specs.Paths.{cell_text}
use Rattle.congestion_picture.proofs.Ranges.{puts-number}
use Rattle.congestion_picture.proofs.paths.put_row.Goals as goal

pub loop-column-preserved : goal.loop-column-preserved
loop-column-preserved g c =
    record {
      same_desk = c.put_cell.ensures.same_desk ∙ c.loop-column.invariant.same_desk;
      puts = puts-number (cell_text c.args.map.now c.args.paint c.args.row) c.loop-column.column c.loop-column.invariant.puts c.put_cell.ensures.puts;
    }
