use Rattle.std.proofs.Common.{◌≡◌, List, [], ◌∷◌, ◌++◌, refl, sym, ap, ◌∙◌, rules, arith}
use Rattle.std.proofs.lemmas.List.{append_assoc, append-nil, length_push}
use Rattle.std.proofs.lemmas.List.Elements.{All-nil, All-push}
use Rattle.std.proofs.lemmas.Result.{err_from_is_err_and}
use Rattle.text_scan.specs.Reading.{Reading, is_next, past_blanks, past_byte}
use Rattle.text_scan.proofs.Bounds.{no_parts, one_more_part, part_refused, parts_ended}
use Rattle.text_scan.proofs.Parts.{Refuses-with}
use Rattle.route_text.specs.declared.segment.Segment.{Segment}
use Rattle.route_text.specs.Blocks.{segment_at, segments_at}
use Rattle.route_text.specs.ReadLimits.{IsSegmentInRange}
use Rattle.route_text.specs.Faults.{refused_at}
use Rattle.route_text.proofs.ReadSegments.{added_behind}
use Rattle.route_text.proofs.Takes.{next_segment_takes}
use Rattle.route_text.proofs.reading.add_segments.Goals as goal

pub loop-segments-init : goal.loop-segments-init
loop-segments-init c =
    ([], record { text = refl; kept = sym (append-nil c.args.segments.now.items); forward = omega arith; range = All-nil IsSegmentInRange; read = no_parts (is_next 33) (past_byte 33) segment_at next_segment_takes c.args.scanner.now })

pub returns-in_err-segment-clause-segments : goal.returns-in_err-segment-clause-segments
returns-in_err-segment-clause-segments c =
    let p = err_from_is_err_and c.from_residual.result c.from_residual.ensures.1 in
    let more = sym c.loop-segments-test.ensures.byte in
    rw (p.1, p.2) (Refuses-with refused_at c.in_err-segment.field-0.0 _ (segments_at c.args.scanner.now)
    (λ at. part_refused (is_next 33) (past_byte 33) segment_at next_segment_takes c.loop-segments.invariant.1.read more) (rw c.mark.ensures.passed at c.in_err-segment.ensures.segment))

pub loop-segments-preserved : goal.loop-segments-preserved
loop-segments-preserved c =
    let before = c.loop-segments.invariant.0 in
    let so_far = c.loop-segments.invariant.1 in
    let one = c.in_ok-segment.field-0 in
    let more = sym c.loop-segments-test.ensures.byte in
    let blanks : c.mark.new.self ≡ past_blanks c.loop-segments.scanner = rw more at c.mark.ensures.passed in
    let moves = c.in_ok-segment.ensures.passed in (
      before ++ one ∷ [],
      record {
        text = moves.text ∙ c.mark.ensures.text ∙ so_far.text;
        kept = c.in_ok-push.ensures.items ∙ ap (λ (xs : List Segment). xs ++ one ∷ []) so_far.kept ∙ append_assoc c.args.segments.now.items before (one ∷ []);
        forward = omega (arith, so_far.forward, moves.forward, ap (λ (q : Reading). q.place) blanks, length_push before one);
        range = All-push IsSegmentInRange before one so_far.range c.in_ok-segment.ensures.range;
        read = one_more_part (is_next 33) (past_byte 33) segment_at next_segment_takes so_far.read more (rw c.mark.ensures.passed at c.in_ok-segment.ensures.segment);
      },
    )

pub returns-clause-segments : goal.returns-clause-segments
returns-clause-segments c =
    let so_far = c.loop-segments.invariant.1 in
    rw (added_behind c.args.segments.now.items c.loop-segments.segments.items c.loop-segments.invariant.0 so_far.kept, c.mark.ensures.passed)
    (parts_ended (is_next 33) (past_byte 33) segment_at next_segment_takes so_far.read (sym c.loop-segments-test.ensures.byte))

pub returns-clause-kept : goal.returns-clause-kept
returns-clause-kept c =
    let so_far = c.loop-segments.invariant.1 in
    rw (added_behind c.args.segments.now.items c.loop-segments.segments.items c.loop-segments.invariant.0 so_far.kept) so_far.kept

pub returns-clause-passed : goal.returns-clause-passed
returns-clause-passed c =
    let so_far = c.loop-segments.invariant.1 in
    rw (added_behind c.args.segments.now.items c.loop-segments.segments.items c.loop-segments.invariant.0 so_far.kept) (search rules)

pub returns-clause-range : goal.returns-clause-range
returns-clause-range c =
    let so_far = c.loop-segments.invariant.1 in
    rw (added_behind c.args.segments.now.items c.loop-segments.segments.items c.loop-segments.invariant.0 so_far.kept) so_far.range
