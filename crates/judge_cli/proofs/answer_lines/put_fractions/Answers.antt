use Rattle.gr_desk.proofs.Pens.{puts-then}
use Rattle.judge_cli.proofs.answer_lines.put_fractions.Goals as goal

pub returns-clause-puts : goal.returns-clause-puts
returns-clause-puts g c = puts-then (puts-then (puts-then c.put.ensures.puts c.put_fraction.ensures.puts) c.put-2.ensures.puts) c.put_fraction-2.ensures.puts
