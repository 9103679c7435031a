use Rattle.std.proofs.Common.{sym, ◌∙◌, rules, SFits, w64}
use Rattle.std.proofs.lemmas.Int.{to_z-of_z}
use Rattle.reference_readers.specs.ReferenceBlocks.{at}
use Rattle.reference_readers.proofs.Steps.{coordinate_step, no_coordinate}
use Rattle.reference_readers.proofs.reference_blocks.take_number.Goals as goal

pub returns-in_default-clause-taken : goal.returns-in_default-clause-taken
returns-in_default-clause-taken c =
    no_coordinate c.args.text.now c.args.place c.requires.inside c.requires.no_blank c.number_end-end.result
    c.number_end-end.ensures.end c.number_end-end.ensures.within c.args.state.now c.args.rest.now
    (sym c.in_default.ensures)

pub returns-clause-taken : goal.returns-clause-taken
returns-clause-taken c =
    let z = c.in-Some.number in
    let fits : SFits w64 z = search rules in
    (rw (c.with_number-state.ensures, to_z-of_z w64 z fits) at
    (c.in_ok-go_on.ensures.rest (at c.args.text.now c.number_end-end.result)))
    ∙ coordinate_step c.args.text.now c.args.place c.requires.inside c.requires.no_blank c.number_end-end.result
    c.number_end-end.ensures.end c.number_end-end.ensures.within c.args.state.now c.args.rest.now
    z (sym c.in-Some.ensures)
