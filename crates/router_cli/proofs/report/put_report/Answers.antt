use Rattle.gr_desk.proofs.Pens.{puts-then}
use Rattle.router_cli.proofs.report.put_report.Goals as goal

pub returns-clause-puts : goal.returns-clause-puts
returns-clause-puts g c =
    let nets = rw c.from.ensures at c.put_line.ensures.puts in
    let forced = rw c.from-2.ensures at c.put_line-2.ensures.puts in
    let rounds = rw c.from-3.ensures at c.put_line-4.ensures.puts in
    let counts = puts-then (puts-then (puts-then nets forced) c.put_line-3.ensures.puts) rounds in
    let measures = puts-then (puts-then counts c.put_line-5.ensures.puts) c.put_line-6.ensures.puts in
    puts-then (puts-then (puts-then measures c.put_labelled_fraction.ensures.puts) c.put_labelled_fraction-2.ensures.puts) c.put_budget.ensures.puts
