use Rattle.std.specs.Prelude.{decimal}
use Rattle.gr_make.proofs.FieldTexts.{puts-line}
use Rattle.gr_make.proofs.lines.put_numbers.Goals as goal

pub returns-clause-puts : goal.returns-clause-puts
returns-clause-puts g c =
    puts-line (decimal c.args.first) c.args.others.now c.put_number.ensures.puts c.put_fields.ensures.puts c.put.ensures.puts
