use Rattle.std.proofs.Common.{◌≡◌, ◌+◌, arith}
use Rattle.gr_make.proofs.adjustments.put_adjustment.Goals as goal

pub returns-clause-puts : goal.returns-clause-puts
returns-clause-puts g c =
    let words = c.args.words.now in
    let row = rw c.draw-col.ensures.drawn at c.draw-row.ensures.word in
    let third : words.count + 1 + 1 ≡ words.count + 2 = omega (arith) in
    let level = rw (c.draw-row.ensures.drawn, c.draw-col.ensures.drawn, third) at c.draw-level.ensures.word in
    rw (c.draw-col.ensures.word, row, level) at c.put_numbers.ensures.puts
