use Rattle.std.proofs.Common.{refl, rules}
use Rattle.gr_desk.proofs.Marks.{begins, writes-done, writes-starved}
use Rattle.gr_desk.proofs.memory.MemDeskDesk.write.Goals as goal

pub returns-then-write-clause-does : goal.returns-then-write-clause-does
returns-then-write-clause-does c =
    writes-done (begins c.args.self.now c.begin.ensures.begun c.number.ensures.number (search rules)) _ _ _ c.writes_in_order-orderly.ensures c.write.ensures.only (c.write.ensures.ok c.if-write.true) refl

pub returns-clause-does : goal.returns-clause-does
returns-clause-does c =
    writes-starved (begins c.args.self.now c.begin.ensures.begun c.number.ensures.number (search rules)) _ _ _ c.writes_in_order-orderly.ensures c.write.ensures.only (c.write.ensures.err c.if-write.false) c.count_out-2.ensures.later c.count_out-2.ensures.rose c.count_out-2.ensures.other
