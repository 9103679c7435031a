use Rattle.std.proofs.Common.{◌≡◌, ◌+◌, true, false, not, length, refl, sym, ap, ◌∙◌, arith}
use Rattle.std.specs.Prelude.{is_none}
use Rattle.std.proofs.lemmas.List.Elements.{All-push}
use Rattle.std.proofs.lemmas.List.Sums.{sum_by_push}
use Rattle.std.proofs.lemmas.Result.{err_from_is_err_and}
use Rattle.text_scan.specs.Reading.{Reading, past_blanks}
use Rattle.text_scan.proofs.Bounds.{one_more_part, part_refused, parts_ended}
use Rattle.text_scan.proofs.Parts.{Refuses-with}
use Rattle.route_text.specs.declared.block.Block.{Block}
use Rattle.route_text.specs.Blocks.{block_at, blocks_of, is_at_end}
use Rattle.route_text.specs.ReadLimits.{IsBlockInRange}
use Rattle.route_text.specs.Faults.{refused_at}
use Rattle.route_text.proofs.Takes.{next_block_takes}
use Rattle.route_text.proofs.reading.read_routes.Goals as goal

pub returns-in_err-block-clause-refusal : goal.returns-in_err-block-clause-refusal
returns-in_err-block-clause-refusal c =
    let p = err_from_is_err_and c.from_residual.result c.from_residual.ensures.1 in
    let more : is_at_end c.loop-scanner.scanner ≡ false = ap is_none (sym c.peek.ensures.byte) ∙ ap not (sym c.loop-scanner-test.ensures) in
    rw (p.1, p.2) (Refuses-with refused_at c.in_err-block.field-0.0 _ (blocks_of c.args.bytes.now)
    (λ at refused. rw (part_refused is_at_end past_blanks block_at next_block_takes c.loop-scanner.invariant.read more refused) refl) (rw c.peek.ensures.passed at c.in_err-block.ensures.block))

pub loop-scanner-preserved : goal.loop-scanner-preserved
loop-scanner-preserved c =
    let so_far = c.loop-scanner.invariant in
    let before = c.loop-scanner.blocks.items in
    let one = c.in_ok-block.field-0 in
    let more : is_at_end c.loop-scanner.scanner ≡ false = ap is_none (sym c.peek.ensures.byte) ∙ ap not (sym c.loop-scanner-test.ensures) in
    let moves = c.in_ok-block.ensures.passed in
    let text : c.block.new.scanner.text ≡ c.args.bytes.now = moves.text ∙ c.peek.ensures.text ∙ so_far.text in
    rw c.in_ok-push.ensures.items (record {
      text = text;
      within = omega (arith, moves.within, ap length text);
      few = omega (arith, so_far.few, moves.forward, ap (λ (q : Reading). q.place) c.peek.ensures.passed, sum_by_push (λ (b : Block). 1 + length b.segments) before one);
      range = All-push IsBlockInRange before one so_far.range c.in_ok-block.ensures.range;
      read = one_more_part is_at_end past_blanks block_at next_block_takes so_far.read more (rw c.peek.ensures.passed at c.in_ok-block.ensures.block);
    })

pub returns-clause-blocks : goal.returns-clause-blocks
returns-clause-blocks c =
    let over : is_at_end c.loop-scanner.scanner ≡ true = ap is_none (sym c.peek.ensures.byte) ∙ ap not (sym c.loop-scanner-test.ensures) in
    rw (parts_ended is_at_end past_blanks block_at next_block_takes c.loop-scanner.invariant.read over) refl
