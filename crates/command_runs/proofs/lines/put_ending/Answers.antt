use Rattle.gr_desk.proofs.Pens.{puts-then}
use Rattle.command_runs.proofs.lines.put_ending.Goals as goal

pub returns-in-NoCommand-clause-puts : goal.returns-in-NoCommand-clause-puts
returns-in-NoCommand-clause-puts g c = rw c.in-NoCommand.is c.put.ensures.puts

pub returns-in-Input-clause-puts : goal.returns-in-Input-clause-puts
returns-in-Input-clause-puts g c =
    let wanted = rw c.wanted.ensures at c.put_wanted.ensures.puts in
    rw c.in-Input.is (puts-then wanted c.put-in-Input.ensures.puts)
