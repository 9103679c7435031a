use Rattle.gr_desk.proofs.Pens.{puts-then}
use Rattle.cert_text.proofs.writing.put_price.Goals as goal

pub returns-clause-puts : goal.returns-clause-puts
returns-clause-puts g c = puts-then c.put_number.ensures.puts c.put.ensures.puts
