use Rattle.gr_desk.proofs.Pens.{puts-then}
use Rattle.judge_cli.proofs.answer_lines.put_routes_report.Goals as goal

pub returns-clause-puts : goal.returns-clause-puts
returns-clause-puts g c =
    let beyond = rw c.from.ensures at c.put_line-3.ensures.puts in
    let counts = puts-then (puts-then c.put_line.ensures.puts c.put_line-2.ensures.puts) beyond in
    puts-then (puts-then (puts-then counts c.put_line-4.ensures.puts) c.put_line-5.ensures.puts) c.put_labelled_fraction.ensures.puts
