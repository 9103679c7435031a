use Rattle.gr_desk.proofs.Pens.{puts-then}
use Rattle.judge_cli.proofs.answer_lines.AnswerSaid.put.Goals as goal

pub returns-in-Yes-clause-puts : goal.returns-in-Yes-clause-puts
returns-in-Yes-clause-puts g c =
    let routes = puts-then c.put.ensures.puts c.put_routes_report-in-Yes.ensures.puts in
    rw c.in-Yes.is (puts-then (puts-then routes c.put_labelled_fraction.ensures.puts) c.put_budget.ensures.puts)
