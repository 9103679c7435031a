use Rattle.gr_desk.proofs.Pens.{puts-then}
use Rattle.cert_text.proofs.writing.put_cert.Goals as goal

pub returns-clause-puts : goal.returns-clause-puts
returns-clause-puts g c =
    let heading = rw c.of.ensures at c.put_heading.ensures.puts in
    let counts = puts-then (puts-then heading c.put_labelled.ensures.puts) c.put_labelled-2.ensures.puts in
    let measured = puts-then (puts-then counts c.put_labelled-3.ensures.puts) c.put_labelled-4.ensures.puts in
    let fractions = puts-then (puts-then measured c.put_labelled_fraction.ensures.puts) c.put_labelled_fraction-2.ensures.puts in
    let count = rw c.list.ensures at c.put_labelled-5.ensures.puts in
    puts-then (puts-then (puts-then fractions c.put_budget.ensures.puts) count) (rw c.list-2.ensures at c.put_prices.ensures.puts)
