use Rattle.reference_readers.proofs.Steps.{name_step}
use Rattle.reference_readers.proofs.reference_blocks.take_name.Goals as goal

pub returns-clause-taken : goal.returns-clause-taken
returns-clause-taken c =
    name_step c.args.text.now c.args.place c.requires.inside c.requires.no_blank c.word_end-end.result
    c.word_end-end.ensures.end c.word_end-end.ensures.within
    c.args.state.now.blocks.items c.in_ok-state.field-0.items c.clear.new.self.items c.in_ok-state.ensures.items
    c.clear.ensures.items
