use Rattle.std.proofs.Common.{ℕ, List, ◌∙◌}
use Rattle.std.specs.Prelude.{◌++◌, codes, decimal}
use Rattle.gr_desk.proofs.Pens.{puts-more, puts-whole}
use Rattle.gr_make.proofs.lines.put_fields.Goals as goal

pub loop-number-preserved : goal.loop-number-preserved
loop-number-preserved g c =
    let field : ℕ → List ℕ = λ n. codes " " ++ decimal n in
    let at = c.loop-number.number-index in
    let so_far = c.loop-number.invariant in
    record {
      same_desk = c.put_field.ensures.same_desk ∙ so_far.same_desk;
      puts = puts-more field c.args.numbers.now at _ c.loop-number-test.true so_far.puts c.put_field.ensures.puts;
    }

pub returns-clause-puts : goal.returns-clause-puts
returns-clause-puts g c =
    let at = c.loop-number.number-index in
    puts-whole (λ n. codes " " ++ decimal n) c.args.numbers.now at c.loop-number-test.false c.loop-number.invariant.puts
