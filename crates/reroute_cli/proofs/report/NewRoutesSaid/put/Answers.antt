use Rattle.gr_desk.proofs.Pens.{puts-then}
use Rattle.reroute_cli.proofs.report.NewRoutesSaid.put.Goals as goal

pub returns-clause-puts : goal.returns-clause-puts
returns-clause-puts g c =
    puts-then (puts-then (puts-then (puts-then c.put_counts.ensures.puts c.put_line.ensures.puts) c.put_line-2.ensures.puts) c.put_labelled_fraction.ensures.puts) c.put_line-3.ensures.puts
