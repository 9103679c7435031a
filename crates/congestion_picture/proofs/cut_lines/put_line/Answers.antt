use Rattle.gr_desk.proofs.Pens.{puts-then}
use Rattle.congestion_picture.proofs.cut_lines.put_line.Goals as goal

pub returns-clause-puts : goal.returns-clause-puts
returns-clause-puts g c =
    puts-then (puts-then (puts-then (puts-then (puts-then c.put.ensures.puts c.put_number.ensures.puts) c.put-2.ensures.puts) c.put_number-2.ensures.puts) c.put-3.ensures.puts) c.put_number-3.ensures.puts
