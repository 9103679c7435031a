use Rattle.gr_desk.proofs.Pens.{puts-then}
use Rattle.eco_cli.proofs.eco_report.EcoReportSaid.put.Goals as goal

pub returns-clause-puts : goal.returns-clause-puts
returns-clause-puts g c =
    let nets = puts-then (puts-then (puts-then c.put_line.ensures.puts c.put_line-2.ensures.puts) c.put_line-3.ensures.puts) c.put_line-4.ensures.puts in
    puts-then (puts-then (puts-then nets c.put_line-5.ensures.puts) c.put_line-6.ensures.puts) c.put_labelled_fraction.ensures.puts
