use Rattle.std.proofs.Common.{◌<◌, refl, rules, length}
use Rattle.gr_desk.proofs.Marks.{begins, reads-done}
use Rattle.gr_desk.proofs.memory.MemDeskDesk.read.Goals as goal

pub returns-clause-does : goal.returns-clause-does
returns-clause-does c =
    let some : 0 < length c.read.new.buf → 0 < c.of-most.result = λ room. c.of-most.ensures.some (search rules) in
    let at_end = rw c.deref.ensures.value at c.read.ensures.end in
    reads-done (begins c.args.self.now c.begin.ensures.begun c.number.ensures.number (search rules)) _ _ _ c.reads_in_order-orderly.ensures c.read.ensures.only (rw c.deref.ensures.value at c.read.ensures.taken) (λ none room. at_end none (some room)) refl
