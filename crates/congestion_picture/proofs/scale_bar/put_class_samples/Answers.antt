use Rattle.gr_desk.proofs.Pens.{puts-then}
use Rattle.congestion_picture.proofs.scale_bar.put_class_samples.Goals as goal

pub returns-clause-puts : goal.returns-clause-puts
returns-clause-puts g c =
    puts-then (puts-then (puts-then (puts-then (puts-then (puts-then (puts-then (puts-then (puts-then (puts-then (puts-then c.put.ensures.puts c.put-2.ensures.puts) c.put-3.ensures.puts) c.put-4.ensures.puts) c.put-5.ensures.puts) c.put-6.ensures.puts) c.put-7.ensures.puts) c.put-8.ensures.puts) c.put-9.ensures.puts) c.put-10.ensures.puts) c.put-11.ensures.puts) c.put-12.ensures.puts
