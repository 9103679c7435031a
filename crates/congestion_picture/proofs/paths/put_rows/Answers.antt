use Rattle.std.proofs.Common.{◌∙◌}
use Rattle.congestion_picture.specs.Paths.{row_text}
use Rattle.congestion_picture.proofs.Ranges.{puts-number}
use Rattle.congestion_picture.proofs.paths.put_rows.Goals as goal

pub loop-row-preserved : goal.loop-row-preserved
loop-row-preserved g c =
    record {
      same_desk = c.put_row.ensures.same_desk ∙ c.loop-row.invariant.same_desk;
      puts = puts-number (row_text c.args.map.now c.args.paint) c.loop-row.row c.loop-row.invariant.puts c.put_row.ensures.puts;
    }
