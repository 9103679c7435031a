use Rattle.gr_desk.proofs.Pens.{puts-then}
use Rattle.command_runs.proofs.lines.put_line.Goals as goal

pub returns-clause-puts : goal.returns-clause-puts
returns-clause-puts g c = puts-then (puts-then c.put.ensures.puts c.put_fields.ensures.puts) c.put-2.ensures.puts
