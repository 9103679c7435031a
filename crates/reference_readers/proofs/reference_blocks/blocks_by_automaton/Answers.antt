use Rattle.std.proofs.Common.{◌≡◌, [], length, subst, arith}
use Rattle.reference_readers.specs.declared.taken.Part.{Part}
use Rattle.reference_readers.specs.ReferenceBlocks.{at, left_at_name, left_at, text_left}
use Rattle.reference_readers.proofs.Steps.{block_cut_off, text_whole, text_refused}
use Rattle.reference_readers.proofs.reference_blocks.blocks_by_automaton.Goals as goal

pub returns-in-Name-clause-blocks : goal.returns-in-Name-clause-blocks
returns-in-Name-clause-blocks c =
    let text = c.args.text.now in
    let place = c.loop-place.place in
    let end : place ≡ length text = omega (arith, c.loop-place.invariant.within, c.loop-place-test.false) in
    text_whole text place c.loop-place.taken.blocks.items end
    (subst (λ (part : Part). left_at part c.loop-place.taken (at text place) ≡ left_at_name [] (at text 0)) c.in-Name.is
    c.loop-place.invariant.whole)

pub returns-in_default : goal.returns-in_default
returns-in_default c =
    let text = c.args.text.now in
    let place = c.loop-place.place in
    let end : place ≡ length text = omega (arith, c.loop-place.invariant.within, c.loop-place-test.false) in
    record {
      blocks = tt;
      refusal = text_refused text place (text_left c.loop-place.taken (at text place)) c.loop-place.invariant.whole
          (block_cut_off text place end c.loop-place.taken.part c.loop-place.taken c.in_default.not-Name);
    }
