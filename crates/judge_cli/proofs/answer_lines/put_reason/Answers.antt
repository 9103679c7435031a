use Rattle.gr_desk.proofs.Pens.{puts-then}
use Rattle.judge_cli.proofs.answer_lines.put_reason.Goals as goal

pub returns-clause-puts : goal.returns-clause-puts
returns-clause-puts g c =
    let number = rw (c.from.ensures, c.number.ensures) at c.put_fields.ensures.puts in
    puts-then (puts-then (puts-then c.put.ensures.puts number) c.put_reason_fields.ensures.puts) c.put-2.ensures.puts
