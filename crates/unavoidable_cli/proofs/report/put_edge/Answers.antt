use Rattle.gr_desk.proofs.Pens.{puts-then}
use Rattle.unavoidable_cli.proofs.report.put_edge.Goals as goal

pub returns-clause-puts : goal.returns-clause-puts
returns-clause-puts g c =
    let from = rw c.ends_of.ensures.start at c.put_point.ensures.puts in
    let to = rw (c.ends_of.ensures.end, c.size.ensures) at c.put_point-2.ensures.puts in
    let price = rw c.from.ensures at c.put_fields.ensures.puts in
    puts-then (puts-then (puts-then (puts-then from c.put.ensures.puts) to) price) c.put-2.ensures.puts
