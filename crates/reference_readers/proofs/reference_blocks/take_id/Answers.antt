use Rattle.std.proofs.Common.{rules, sym, SFits, w64}
use Rattle.std.proofs.lemmas.Int.{to_z-of_z}
use Rattle.reference_readers.proofs.Steps.{id_step, no_id}
use Rattle.reference_readers.proofs.reference_blocks.take_id.Goals as goal

pub returns-in_default-clause-taken : goal.returns-in_default-clause-taken
returns-in_default-clause-taken c =
    no_id c.args.text.now c.args.place c.requires.inside c.requires.no_blank c.word_end-end.result c.word_end-end.ensures.end
    c.word_end-end.ensures.within c.args.state.now
    (sym (rw c.from.ensures at c.in_default.ensures))

pub returns-clause-taken : goal.returns-clause-taken
returns-clause-taken c =
    let z = c.in-Some.id in
    let fits : SFits w64 z = search rules in
    rw (to_z-of_z w64 z fits) (id_step c.args.text.now c.args.place c.requires.inside c.requires.no_blank c.word_end-end.result
    c.word_end-end.ensures.end c.word_end-end.ensures.within c.args.state.now z
    (sym (rw c.from.ensures at c.in-Some.ensures)))
