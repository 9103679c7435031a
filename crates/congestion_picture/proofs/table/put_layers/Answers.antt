use Rattle.std.proofs.Common.{slice_index, ◌∙◌, arith}
use Rattle.congestion_picture.specs.Tables.{columns_of_layer}
use Rattle.congestion_picture.proofs.Ranges.{puts-number, puts-numbers}
use Rattle.congestion_picture.proofs.table.put_layers.Goals as goal

pub loop-i-preserved : goal.loop-i-preserved
loop-i-preserved g c =
    record {
      same_desk = c.put_use.ensures.same_desk ∙ c.loop-i.invariant.same_desk;
      puts = puts-number (columns_of_layer c.args.grid.now (slice_index c.args.loads.now) c.args.each c.args.tile_edge) c.loop-i.i c.loop-i.invariant.puts (rw c.tile_use.ensures.value at c.put_use.ensures.puts);
    }

pub returns-clause-puts : goal.returns-clause-puts
returns-clause-puts g c =
    puts-numbers (columns_of_layer c.args.grid.now (slice_index c.args.loads.now) c.args.each c.args.tile_edge) c.loop-i.i c.args.each.count (omega (arith, c.loop-i-test.false, c.loop-i.auto.i-end)) c.loop-i.invariant.puts
