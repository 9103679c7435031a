use Rattle.gr_desk.proofs.Pens.{puts-then}
use Rattle.command_runs.proofs.lines.put_wanted.Goals as goal

pub returns-in-Some-clause-puts : goal.returns-in-Some-clause-puts
returns-in-Some-clause-puts g c =
    rw c.in-Some.is (puts-then c.put.ensures.puts (rw (c.as_bytes.ensures.value, c.word.ensures) at c.put-in-Some.ensures.puts))
