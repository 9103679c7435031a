use Rattle.std.proofs.Common.{◌++◌, codes, decimal, ◌∙◌}
use Rattle.gr_desk.proofs.Pens.{puts-then, puts-more}
use Rattle.command_runs.proofs.lines.put_fields.Goals as goal

pub loop-number-preserved : goal.loop-number-preserved
loop-number-preserved g c = record {
  same_desk = c.put_number.ensures.same_desk ∙ c.put.ensures.same_desk ∙ c.loop-number.invariant.same_desk;
  puts = puts-more (λ n. codes " " ++ decimal n) c.args.numbers.now c.loop-number.number-index _ c.loop-number-test.true c.loop-number.invariant.puts
      (puts-then c.put.ensures.puts c.put_number.ensures.puts);
}
