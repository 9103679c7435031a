use Rattle.gr_desk.proofs.Pens.{puts-then}
use Rattle.gr_make.proofs.lines.put_field.Goals as goal

pub returns-clause-puts : goal.returns-clause-puts
returns-clause-puts g c = puts-then c.put.ensures.puts c.put_number.ensures.puts
