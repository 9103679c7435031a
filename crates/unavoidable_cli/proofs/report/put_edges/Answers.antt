use Rattle.gr_desk.proofs.Pens.{puts-then}
use Rattle.unavoidable_cli.proofs.report.put_edges.Goals as goal

pub returns-clause-puts : goal.returns-clause-puts
returns-clause-puts g c = puts-then c.put_line.ensures.puts c.put_edge_lines.ensures.puts
