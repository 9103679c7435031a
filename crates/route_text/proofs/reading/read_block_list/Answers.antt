use Rattle.std.proofs.Common.{◌≡◌, ℕ, ◌+◌, true, false, not, List, [], ◌∷◌, ◌++◌, length, length-append, refl, sym, ap, subst, ◌∙◌, arith}
use Rattle.std.specs.Prelude.{is_none}
use Rattle.std.specs.List.{All}
use Rattle.std.proofs.lemmas.List.Elements.{All-push}
use Rattle.std.proofs.lemmas.List.Sums.{sum_by_push}
use Rattle.std.proofs.lemmas.Result.{err_from_is_err_and}
use Rattle.text_scan.specs.Reading.{Reading, whole, past_blanks}
use Rattle.text_scan.proofs.Bounds.{AreParts, one_more_part, part_refused, parts_ended}
use Rattle.text_scan.proofs.Parts.{Refuses-with}
use Rattle.route_text.specs.declared.block.Block.{Block}
use Rattle.route_text.specs.declared.block_head.BlockHead.{BlockHead}
use Rattle.route_text.specs.declared.segment.Segment.{Segment}
use Rattle.route_text.specs.Blocks.{block_at, blocks_of, is_at_end}
use Rattle.route_text.specs.FlatBlocks.{AreInOrder, blocks_from}
use Rattle.route_text.specs.LentBlocks.{added, headed_block}
use Rattle.route_text.specs.ReadLimits.{IsBlockInRange, block_and_segment_count}
use Rattle.route_text.specs.Faults.{refused_at}
use Rattle.route_text.proofs.FlatBlocks.{EndsBehind, one_more_block, one_more_in_order}
use Rattle.route_text.proofs.Takes.{next_block_takes}
use Rattle.route_text.proofs.reading.read_block_list.Goals as goal

-- the order of the heads, by other names of the lists
ordered : (names name : List ℕ) (segments more : List Segment) (heads : List BlockHead) (head : BlockHead) (ns : List ℕ) (ss : List Segment) (hs : List BlockHead)
    → ns ≡ names ++ name → ss ≡ segments ++ more → hs ≡ heads ++ head ∷ []
    → AreInOrder (length names + length name) (length segments + length more) 0 0 (heads ++ head ∷ []) → AreInOrder (length ns) (length ss) 0 0 hs
ordered names name segments more heads head ns ss hs names_are segments_are heads_are order =
    rw (names_are, segments_are, heads_are, length-append names name, length-append segments more) order

pub returns-in_err-heading-clause-refusal : goal.returns-in_err-heading-clause-refusal
returns-in_err-heading-clause-refusal c =
    let p = err_from_is_err_and c.from_residual.result c.from_residual.ensures.1 in
    let more : is_at_end c.loop-scanner.scanner ≡ false = ap is_none (sym c.peek.ensures.byte) ∙ ap not (sym c.loop-scanner-test.ensures) in
    rw (p.1, p.2) (Refuses-with refused_at c.in_err-heading.field-0.0 _ (blocks_of c.args.bytes.now)
    (λ at refused. rw (part_refused is_at_end past_blanks block_at next_block_takes c.loop-scanner.invariant.read more refused) refl) (rw c.peek.ensures.passed at c.in_err-heading.ensures.block))

pub loop-scanner-preserved : goal.loop-scanner-preserved
loop-scanner-preserved c =
    let so_far = c.loop-scanner.invariant in
    let names = c.loop-scanner.names.items in
    let name = c.in_ok-heading.heading.name.now in
    let segments = c.loop-scanner.segments.items in
    let more = added segments c.next_block.new.segments.items in
    let heads = c.loop-scanner.heads.items in
    let head : BlockHead = record { id = c.in_ok-heading.heading.id; name_end = c.in_ok-end_of.field-0; segments_end = c.in_ok-end_of-2.field-0 } in
    let before = blocks_from names segments 0 0 heads in
    let one = headed_block more c.in_ok-heading.heading in
    let names_are : c.extend_from_slice.new.self.items ≡ names ++ name = c.in_ok-extend_from_slice.ensures.items in
    let segments_are : c.next_block.new.segments.items ≡ segments ++ more = c.in_ok-heading.ensures.kept in
    let heads_are : c.push.new.self.items ≡ heads ++ head ∷ [] = c.in_ok-push.ensures.items in
    let behind : EndsBehind (length names) (length segments) (length name) (length more) head = record {
      name = c.in_ok-end_of.ensures.end ∙ c.len.ensures ∙ c.extend_from_slice.new.self.ok.0 ∙ ap (length {A = ℕ}) names_are ∙ length-append names name;
      segments_end = c.in_ok-end_of-2.ensures.end ∙ c.len-in-loop-scanner.ensures ∙ c.next_block.new.segments.ok.0 ∙ ap (length {A = Segment}) segments_are ∙ length-append segments more;
    } in
    let are : blocks_from c.extend_from_slice.new.self.items c.next_block.new.segments.items 0 0 c.push.new.self.items ≡ before ++ one ∷ [] =
    ap (λ ns. blocks_from ns c.next_block.new.segments.items 0 0 c.push.new.self.items) names_are
    ∙ ap (λ ss. blocks_from (names ++ name) ss 0 0 c.push.new.self.items) segments_are
    ∙ ap (blocks_from (names ++ name) (segments ++ more) 0 0) heads_are ∙ one_more_block names name segments more 0 0 heads head so_far.order behind in
    let go_on : is_at_end c.loop-scanner.scanner ≡ false = ap is_none (sym c.peek.ensures.byte) ∙ ap not (sym c.loop-scanner-test.ensures) in
    let moves = c.in_ok-heading.ensures.passed in
    let text : c.next_block.new.scanner.text ≡ c.args.bytes.now = moves.text ∙ c.peek.ensures.text ∙ so_far.text in
    record {
      text = text;
      within = omega (arith, moves.within, ap length text);
      order = ordered names name segments more heads head _ _ _ names_are segments_are heads_are (one_more_in_order (length names) (length segments) (length name) (length more) 0 0 heads head so_far.order behind);
      few = omega (arith, so_far.few, moves.forward, ap (λ (q : Reading). q.place) c.peek.ensures.passed, ap block_and_segment_count are, sum_by_push (λ (b : Block). 1 + length b.segments) before one);
      range = subst (All IsBlockInRange) (sym are) (All-push IsBlockInRange before one so_far.range c.in_ok-heading.ensures.range);
      read = subst (AreParts is_at_end past_blanks block_at next_block_takes (whole c.args.bytes.now) c.next_block.new.scanner) (sym are)
          (one_more_part is_at_end past_blanks block_at next_block_takes so_far.read go_on (rw c.peek.ensures.passed at c.in_ok-heading.ensures.block));
    }

pub returns-clause-blocks : goal.returns-clause-blocks
returns-clause-blocks c =
    let over : is_at_end c.loop-scanner.scanner ≡ true = ap is_none (sym c.peek.ensures.byte) ∙ ap not (sym c.loop-scanner-test.ensures) in
    rw (parts_ended is_at_end past_blanks block_at next_block_takes c.loop-scanner.invariant.read over, c.of.ensures) refl
