use Rattle.std.proofs.Common.{◌<◌, rules, length, None}
use Rattle.std.proofs.lemmas.Option.{slice_get-get_or}
use Rattle.gr_desk.proofs.Quiet.{reads-quiet}
use Rattle.gr_desk.proofs.never_fails.NeverFailsDesk.read.Goals as goal

pub returns-clause-does : goal.returns-clause-does
returns-clause-does c =
    let within : c.number.result < length c.args.self.now.readings = search rules in
    let some : 0 < length c.read.new.buf → 0 < length c.args.buf.now = λ room. search rules in
    let at_end = rw c.deref.ensures.value at c.read.ensures.end in
    let was = slice_get-get_or c.args.self.now.readings c.number.result (record { file = None; at = 0 }) within in
    reads-quiet c.args.self.now _ _ c.number.ensures.number _ c.read.new.self was
    (rw c.deref.ensures.value at c.read.ensures.taken)
    (λ none room. at_end none (some room))
