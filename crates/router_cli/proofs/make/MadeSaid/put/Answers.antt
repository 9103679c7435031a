use Rattle.gr_desk.proofs.Pens.{puts-then}
use Rattle.router_cli.proofs.make.MadeSaid.put.Goals as goal

pub returns-clause-puts : goal.returns-clause-puts
returns-clause-puts g c = puts-then (puts-then c.put.ensures.puts (rw c.from.ensures at c.put_fields.ensures.puts)) c.put-2.ensures.puts
