use Rattle.std.proofs.Common.{rules, SFits, w64}
use Rattle.std.proofs.lemmas.Int.{to_z-of_z}
use Rattle.gr_desk.proofs.Pens.{puts-then}
use Rattle.guide_text.proofs.writing.put_rect.Goals as goal

pub returns-clause-puts : goal.returns-clause-puts
returns-clause-puts g c =
    let rect = c.args.rect in
    let in_x1 : SFits w64 rect.x1 = search rules in
    let in_y1 : SFits w64 rect.y1 = search rules in
    let in_x2 : SFits w64 rect.x2 = search rules in
    let in_y2 : SFits w64 rect.y2 = search rules in
    let in_layer : SFits w64 rect.layer = search rules in
    let x1 = rw (to_z-of_z w64 rect.x1 in_x1) at c.put_number.ensures.puts in
    let y1 = rw (to_z-of_z w64 rect.y1 in_y1) at c.put_number-2.ensures.puts in
    let x2 = rw (to_z-of_z w64 rect.x2 in_x2) at c.put_number-3.ensures.puts in
    let y2 = rw (to_z-of_z w64 rect.y2 in_y2) at c.put_number-4.ensures.puts in
    let layer = rw (to_z-of_z w64 rect.layer in_layer) at c.put_number-5.ensures.puts in
    let low = puts-then (puts-then (puts-then x1 c.put.ensures.puts) y1) c.put-2.ensures.puts in
    let high = puts-then (puts-then (puts-then (puts-then low x2) c.put-3.ensures.puts) y2) c.put-4.ensures.puts in
    puts-then (puts-then high layer) c.put-5.ensures.puts
