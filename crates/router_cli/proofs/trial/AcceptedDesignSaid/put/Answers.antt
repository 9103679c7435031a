use Rattle.gr_desk.proofs.Pens.{puts-then}
use Rattle.router_cli.proofs.trial.AcceptedDesignSaid.put.Goals as goal

pub returns-clause-puts : goal.returns-clause-puts
returns-clause-puts g c = puts-then c.put_report.ensures.puts c.put.ensures.puts
