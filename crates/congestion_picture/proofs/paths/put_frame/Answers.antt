use Rattle.gr_desk.proofs.Pens.{puts-then}
use Rattle.congestion_picture.proofs.paths.put_frame.Goals as goal

pub returns-clause-puts : goal.returns-clause-puts
returns-clause-puts g c =
    let x = rw (c.from-2.ensures, c.from-scale.ensures) at c.put_number.ensures.puts in
    let y = rw (c.from-3.ensures, c.from-scale.ensures) at c.put_number-2.ensures.puts in
    let wide = rw (c.from.ensures, c.from-scale.ensures) at c.put_number-3.ensures.puts in
    let high = rw c.from-scale.ensures at c.put_number-4.ensures.puts in
    let back = rw (c.from.ensures, c.from-scale.ensures) at c.put_number-5.ensures.puts in
    puts-then (puts-then (puts-then (puts-then (puts-then (puts-then (puts-then (puts-then (puts-then (puts-then c.put.ensures.puts x) c.put-2.ensures.puts) y) c.put-3.ensures.puts) wide)
    c.put-4.ensures.puts) high) c.put-5.ensures.puts) back) c.put-6.ensures.puts
