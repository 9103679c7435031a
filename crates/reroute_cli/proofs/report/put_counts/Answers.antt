use Rattle.gr_desk.proofs.Pens.{puts-then}
use Rattle.reroute_cli.proofs.report.put_counts.Goals as goal

pub returns-clause-puts : goal.returns-clause-puts
returns-clause-puts g c =
    let rounds = rw c.from.ensures at c.put_line-5.ensures.puts in
    puts-then (puts-then (puts-then (puts-then c.put_line.ensures.puts c.put_line-2.ensures.puts) c.put_line-3.ensures.puts) c.put_line-4.ensures.puts) rounds
