use Rattle.std.proofs.Common.{◌+◌, ◌∙◌, arith}
use Rattle.congestion_picture.specs.Tables.{layer_name}
use Rattle.congestion_picture.proofs.Ranges.{puts-number, puts-numbers}
use Rattle.congestion_picture.proofs.table.put_layer_names.Goals as goal

pub loop-i-preserved : goal.loop-i-preserved
loop-i-preserved g c =
    record {
      same_desk = c.put_layer_name.ensures.same_desk ∙ c.loop-i.invariant.same_desk;
      puts = puts-number (λ i. layer_name (c.args.each.first + i)) c.loop-i.i c.loop-i.invariant.puts c.put_layer_name.ensures.puts;
    }

pub returns-clause-puts : goal.returns-clause-puts
returns-clause-puts g c =
    puts-numbers (λ i. layer_name (c.args.each.first + i)) c.loop-i.i c.args.each.count (omega (arith, c.loop-i-test.false, c.loop-i.auto.i-end)) c.loop-i.invariant.puts
