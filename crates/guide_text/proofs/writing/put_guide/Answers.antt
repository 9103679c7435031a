use Rattle.gr_desk.proofs.Pens.{puts-then}
use Rattle.guide_text.proofs.writing.put_guide.Goals as goal

pub returns-clause-puts : goal.returns-clause-puts
returns-clause-puts g c =
    let head = puts-then (puts-then (puts-then (rw c.list.ensures at c.put.ensures.puts) c.put-2.ensures.puts) c.put_number.ensures.puts) c.put-3.ensures.puts in
    puts-then (puts-then head (rw c.list-2.ensures at c.put_rects.ensures.puts)) c.put-4.ensures.puts
