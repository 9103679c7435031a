use Rattle.gr_desk.proofs.Pens.{puts-then}
use Rattle.congestion_picture.proofs.head.put_head.Goals as goal

pub returns-clause-puts : goal.returns-clause-puts
returns-clause-puts g c =
    let first = rw c.as_bytes.ensures.value at c.put_escaped.ensures.puts in
    let second = rw c.as_bytes-2.ensures.value at c.put_escaped-2.ensures.puts in
    puts-then (puts-then (puts-then (puts-then (puts-then (puts-then (puts-then (puts-then c.put.ensures.puts c.put_sized.ensures.puts) c.put_sized-2.ensures.puts) c.put-2.ensures.puts) first) c.put_sized-3.ensures.puts) c.put-3.ensures.puts) second) c.put-4.ensures.puts
