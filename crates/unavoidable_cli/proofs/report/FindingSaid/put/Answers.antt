use Rattle.gr_desk.proofs.Pens.{puts-then}
use Rattle.unavoidable_cli.proofs.report.FindingSaid.put.Goals as goal

pub returns-clause-puts : goal.returns-clause-puts
returns-clause-puts g c =
    let bottleneck = rw c.as_slice.ensures.value at c.put_edges.ensures.puts in
    let cut = rw c.as_slice-2.ensures.value at c.put_edges-2.ensures.puts in
    puts-then (puts-then (puts-then (puts-then (puts-then c.put_labelled_fraction.ensures.puts bottleneck) c.put_line.ensures.puts) cut) c.put_line-2.ensures.puts)
    c.put_budget.ensures.puts
