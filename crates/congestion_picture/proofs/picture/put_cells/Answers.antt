use Rattle.gr_desk.proofs.Pens.{puts-then}
use Rattle.congestion_picture.proofs.picture.put_cells.Goals as goal

pub returns-clause-puts : goal.returns-clause-puts
returns-clause-puts g c =
    puts-then (puts-then (puts-then (puts-then (puts-then (puts-then (puts-then (puts-then (puts-then (puts-then c.put_path.ensures.puts c.put_path-2.ensures.puts) c.put_path-3.ensures.puts) c.put_path-4.ensures.puts) c.put_path-5.ensures.puts) c.put_path-6.ensures.puts) c.put_path-7.ensures.puts) c.put_path-8.ensures.puts) c.put_path-9.ensures.puts) c.put_path-10.ensures.puts) c.put_path-11.ensures.puts
