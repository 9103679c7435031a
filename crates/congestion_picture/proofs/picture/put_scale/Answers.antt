use Rattle.gr_desk.proofs.Pens.{puts-then}
use Rattle.congestion_picture.proofs.picture.put_scale.Goals as goal

pub returns-clause-puts : goal.returns-clause-puts
returns-clause-puts g c =
    puts-then (puts-then (puts-then (puts-then c.put_group.ensures.puts c.put_class_samples.ensures.puts) c.put_line_samples.ensures.puts) c.put_sample_part.ensures.puts) c.put.ensures.puts
