use Rattle.std.proofs.Common.{sym, subst, List}
use Rattle.route_text.specs.declared.block.Block.{Block}
use Rattle.route_text.specs.Reads.{RouteRead}
use Rattle.reference_readers.specs.ReferenceBlocks.{ReadsAsBefore}
use Rattle.reference_readers.proofs.Steps.{further_step, no_further_number, further_passed}
use Rattle.reference_readers.proofs.reference_blocks.take_further.Goals as goal

pub returns-then-not-begins_number-clause-taken : goal.returns-then-not-begins_number-clause-taken
returns-then-not-begins_number-clause-taken c =
    subst (λ (before : RouteRead (List Block)). ReadsAsBefore before c.args.text.now c.take_between.new.state
    c.take_between.result)
    (further_passed c.args.text.now c.args.place c.requires.inside c.requires.no_blank c.args.state.now
    (sym c.if-not-begins_number.ensures)) c.take_between.ensures.taken

pub returns-in_default-clause-taken : goal.returns-in_default-clause-taken
returns-in_default-clause-taken c =
    no_further_number c.args.text.now c.args.place c.requires.inside c.requires.no_blank c.word_end-end.result
    c.word_end-end.ensures.end c.word_end-end.ensures.within c.args.state.now
    (sym c.if-not-begins_number.ensures) (sym c.in_default.ensures)

pub returns-clause-taken : goal.returns-clause-taken
returns-clause-taken c =
    further_step c.args.text.now c.args.place c.requires.inside c.requires.no_blank c.word_end-end.result
    c.word_end-end.ensures.end c.word_end-end.ensures.within c.args.state.now
    c.in-Some.field-0 (sym c.if-not-begins_number.ensures) (sym c.in-Some.ensures)
