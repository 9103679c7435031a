use Rattle.std.proofs.Common.{◌∙◌, refl, rules, sym}
use Rattle.gr_desk.specs.Files.{file_number}
use Rattle.gr_desk.proofs.Marks.{begins, opens-done, opens-refused, found-at, none-found}
use Rattle.gr_desk.proofs.memory.MemDeskDesk.open.Goals as goal

pub returns-then-open-clause-does : goal.returns-then-open-clause-does
returns-then-open-clause-does c =
    let found = found-at c.begin-listed.result c.file_unless-file.result (file_number c.begin-listed.new.self.files.items c.args.name.now) c.file_unless-file.ensures (sym c.open.ensures.done ∙ c.if-open.true) in
    opens-done (begins c.args.self.now c.begin-listed.ensures.begun c.number.ensures.number (search rules)) _ _ _ found.0 c.opens_in_order-orderly.ensures (rw found.1 at c.open.ensures.slot) found.2 refl

pub returns-clause-does : goal.returns-clause-does
returns-clause-does c =
    let none = none-found c.file_unless-file.result (sym c.open.ensures.done ∙ c.if-open.false) in
    opens-refused (begins c.args.self.now c.begin-listed.ensures.begun c.number.ensures.number (search rules)) _ _ _ c.opens_in_order-orderly.ensures (rw none at c.open.ensures.slot) c.count_in.ensures.later c.count_in.ensures.rose c.count_in.ensures.other
