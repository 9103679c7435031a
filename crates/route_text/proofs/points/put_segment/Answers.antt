use Rattle.gr_desk.proofs.Pens.{puts-then}
use Rattle.route_text.proofs.points.put_segment.Goals as goal

pub returns-clause-puts : goal.returns-clause-puts
returns-clause-puts g c =
    puts-then (puts-then (puts-then c.put_point.ensures.puts c.put.ensures.puts) c.put_point-2.ensures.puts) c.put-2.ensures.puts
