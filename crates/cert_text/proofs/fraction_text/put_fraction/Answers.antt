use Rattle.gr_desk.proofs.Pens.{puts-then}
use Rattle.cert_text.proofs.fraction_text.put_fraction.Goals as goal

pub returns-in-Some-clause-puts : goal.returns-in-Some-clause-puts
returns-in-Some-clause-puts g c = rw c.in-Some.is (puts-then (puts-then c.put_number.ensures.puts c.put.ensures.puts) c.put_number-in-Some.ensures.puts)
