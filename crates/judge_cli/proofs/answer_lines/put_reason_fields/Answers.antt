use Rattle.gr_desk.proofs.Pens.{puts-then}
use Rattle.judge_cli.proofs.answer_lines.put_reason_fields.Goals as goal

pub returns-in-WrongCount-clause-puts : goal.returns-in-WrongCount-clause-puts
returns-in-WrongCount-clause-puts g c =
    let word = rw (c.as_bytes.ensures.value, c.word.ensures) at c.put-in-WrongCount.ensures.puts in
    rw c.in-WrongCount.is (puts-then (puts-then c.put.ensures.puts word) c.put_fields-in-WrongCount.ensures.puts)
