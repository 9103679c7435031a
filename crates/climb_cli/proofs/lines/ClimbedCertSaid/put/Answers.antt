use Rattle.gr_desk.proofs.Pens.{puts-then}
use Rattle.climb_cli.proofs.lines.ClimbedCertSaid.put.Goals as goal

pub returns-clause-puts : goal.returns-clause-puts
returns-clause-puts g c = puts-then (rw c.from.ensures at c.put_line.ensures.puts) c.put_labelled_fraction.ensures.puts
