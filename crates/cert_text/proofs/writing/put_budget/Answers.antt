use Rattle.gr_desk.proofs.Pens.{puts-then}
use Rattle.cert_text.proofs.writing.put_budget.Goals as goal

pub returns-in-Some-clause-puts : goal.returns-in-Some-clause-puts
returns-in-Some-clause-puts g c =
    let numbers = puts-then (puts-then c.put_number.ensures.puts c.put-in-Some.ensures.puts) c.put_number-in-Some.ensures.puts in
    rw c.in-Some.is (puts-then (puts-then c.put.ensures.puts numbers) c.put-in-Some-2.ensures.puts)
