use Rattle.std.proofs.Common.{◌∙◌, refl, rules, sym}
use Rattle.gr_desk.proofs.Marks.{begins, creates-done, creates-refused, copy-made, none-found}
use Rattle.gr_desk.proofs.memory.MemDeskDesk.create.Goals as goal

pub returns-then-create-clause-does : goal.returns-then-create-clause-does
returns-then-create-clause-does c =
    let made = copy-made c.copy_unless-target.result _ c.create.new.self c.args.name.now (sym c.create.ensures.done ∙ c.if-create.true) c.create.ensures.ok c.copy_unless-target.ensures.copy in
    creates-done (begins c.args.self.now c.begin-listed.ensures.begun c.number.ensures.number (search rules)) _ _ _ made.0 c.creates_in_order-orderly.ensures made.1 made.2 refl

pub returns-clause-does : goal.returns-clause-does
returns-clause-does c =
    let none = none-found c.copy_unless-target.result (sym c.create.ensures.done ∙ c.if-create.false) in
    creates-refused (begins c.args.self.now c.begin-listed.ensures.begun c.number.ensures.number (search rules)) _ _ _ c.creates_in_order-orderly.ensures (rw none at c.create.ensures.err) c.count_out.ensures.later c.count_out.ensures.rose c.count_out.ensures.other
