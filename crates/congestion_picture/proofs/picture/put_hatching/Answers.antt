use Rattle.gr_desk.proofs.Pens.{puts-then}
use Rattle.congestion_picture.proofs.picture.put_hatching.Goals as goal

pub returns-clause-puts : goal.returns-clause-puts
returns-clause-puts g c =
    puts-then c.put_path.ensures.puts c.put_path-2.ensures.puts
