use Rattle.gr_make.proofs.FieldTexts.{puts-line}
use Rattle.gr_make.proofs.lines.put_line.Goals as goal

pub returns-clause-puts : goal.returns-clause-puts
returns-clause-puts g c =
    puts-line c.args.words.now c.args.numbers.now c.put.ensures.puts c.put_fields.ensures.puts c.put-2.ensures.puts
