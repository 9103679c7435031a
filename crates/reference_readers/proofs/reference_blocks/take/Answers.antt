use Rattle.std.proofs.Common.{sym, ◌+◌, get_or, drop}
use Rattle.reference_readers.specs.ReferenceBlocks.{at}
use Rattle.reference_readers.proofs.Automaton.{byte_left, left_behind_blank}
use Rattle.reference_readers.proofs.reference_blocks.take.Goals as goal

pub returns-then-is_blank-clause-taken : goal.returns-then-is_blank-clause-taken
returns-then-is_blank-clause-taken c =
    let text = c.args.text.now in
    let place = c.args.place in
    left_behind_blank c.args.state.now.part c.args.state.now (at text place) (get_or text place 0) (drop (place + 1) text)
    (byte_left text place c.requires) (sym c.if-is_blank.ensures)
