use Rattle.std.proofs.Common.{◌+◌, ◌∙◌, get_or, ne_eqb, eq-eqb, arith}
use Rattle.reference_readers.specs.ReferenceBlocks.{at}
use Rattle.reference_readers.proofs.Steps.{segment_begun, block_ended, nothing_between}
use Rattle.reference_readers.proofs.reference_blocks.take_between.Goals as goal

pub returns-then-byte-eq40-clause-taken : goal.returns-then-byte-eq40-clause-taken
returns-then-byte-eq40-clause-taken c =
    let byte = get_or c.args.text.now c.args.place 0 in
    segment_begun c.args.text.now c.args.place c.requires.inside c.requires.no_blank c.args.state.now
    (eq-eqb byte 40 c.if-byte-eq40.true) (ne_eqb byte 33 (λ same. omega arith))

pub returns-then-byte-ne33-clause-taken : goal.returns-then-byte-ne33-clause-taken
returns-then-byte-ne33-clause-taken c =
    let byte = get_or c.args.text.now c.args.place 0 in
    nothing_between c.args.text.now c.args.place c.requires.inside c.requires.no_blank c.args.state.now
    (ne_eqb byte 40 c.if-byte-eq40.false) (ne_eqb byte 33 c.if-byte-ne33.true)

pub returns-clause-taken : goal.returns-clause-taken
returns-clause-taken c =
    let byte = get_or c.args.text.now c.args.place 0 in
    c.in_ok-end_block.ensures.ended (at c.args.text.now (c.args.place + 1))
    ∙ block_ended c.args.text.now c.args.place c.requires.inside c.requires.no_blank c.args.state.now
    (eq-eqb byte 33 c.if-byte-ne33.false)
