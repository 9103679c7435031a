use Rattle.gr_desk.proofs.Pens.{puts-then}
use Rattle.cert_text.proofs.writing.put_heading.Goals as goal

pub returns-clause-puts : goal.returns-clause-puts
returns-clause-puts g c = puts-then (puts-then c.put.ensures.puts (rw c.text.ensures at c.put-2.ensures.puts)) c.put-3.ensures.puts
