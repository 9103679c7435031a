use Rattle.gr_desk.proofs.Pens.{puts-then}
use Rattle.congestion_picture.proofs.picture.put_map.Goals as goal

pub returns-clause-puts : goal.returns-clause-puts
returns-clause-puts g c =
    let half = rw c.scale.ensures at c.put_number.ensures.puts in
    let whole = rw c.scale-2.ensures at c.put_number-2.ensures.puts in
    let wide = rw c.width.ensures at c.put_number-3.ensures.puts in
    let high = rw c.height.ensures at c.put_number-4.ensures.puts in
    puts-then (puts-then (puts-then (puts-then (puts-then (puts-then (puts-then (puts-then (puts-then (puts-then (puts-then (puts-then (puts-then (puts-then (puts-then (puts-then (puts-then c.put_group.ensures.puts c.put.ensures.puts) c.put-2.ensures.puts) c.put-3.ensures.puts) half) c.put-4.ensures.puts) whole) c.put-5.ensures.puts) c.put_cells.ensures.puts) c.put_hatching.ensures.puts) c.put-6.ensures.puts) wide) c.put-7.ensures.puts) high) c.put-8.ensures.puts) c.put_path.ensures.puts) c.put_cut_part.ensures.puts) c.put-9.ensures.puts
