use Rattle.std.proofs.Common.{refl, sym, ap, ◌∙◌, arith}
use Rattle.std.proofs.lemmas.Result.{err_from_is_err_and}
use Rattle.text_scan.specs.Reading.{Reading, is_next, past_blanks}
use Rattle.text_scan.proofs.Bounds.{no_parts, one_more_part, part_refused, parts_ended}
use Rattle.text_scan.proofs.Parts.{Refuses-with}
use Rattle.guide_text.specs.ReadGuides.{rect_at, rects_at}
use Rattle.guide_text.specs.GuideFaults.{guide_refused_at}
use Rattle.guide_text.proofs.Takes.{next_rect_takes}
use Rattle.guide_text.proofs.reading.rects.Goals as goal

pub loop-rects-init : goal.loop-rects-init
loop-rects-init c =
    rw c.new-rects.ensures.items (record { text = refl; forward = omega arith; read = no_parts (is_next 41) past_blanks rect_at next_rect_takes c.args.scanner.now })

pub returns-in_err-rect-clause-rects : goal.returns-in_err-rect-clause-rects
returns-in_err-rect-clause-rects c =
    let p = err_from_is_err_and c.from_residual.result c.from_residual.ensures.1 in
    let more = sym c.loop-rects-test.ensures.byte in
    rw (p.1, p.2) (Refuses-with guide_refused_at c.in_err-rect.field-0.0 _ (rects_at c.args.scanner.now)
    (λ at. part_refused (is_next 41) past_blanks rect_at next_rect_takes c.loop-rects.invariant.read more) (rw c.is_closed.ensures.passed at c.in_err-rect.ensures.rect))

pub loop-rects-preserved : goal.loop-rects-preserved
loop-rects-preserved c =
    let so_far = c.loop-rects.invariant in
    let before = c.loop-rects.rects.items in
    let one = c.in_ok-rect.field-0 in
    let more = sym c.loop-rects-test.ensures.byte in
    let moves = c.in_ok-rect.ensures.passed in
    rw c.in_ok-push.ensures.items (record {
      text = moves.text ∙ c.is_closed.ensures.text ∙ so_far.text;
      forward = omega (arith, so_far.forward, moves.forward, ap (λ (q : Reading). q.place) c.is_closed.ensures.passed);
      read = one_more_part (is_next 41) past_blanks rect_at next_rect_takes so_far.read more (rw c.is_closed.ensures.passed at c.in_ok-rect.ensures.rect);
    })

pub returns-clause-rects : goal.returns-clause-rects
returns-clause-rects c = rw c.is_closed.ensures.passed (parts_ended (is_next 41) past_blanks rect_at next_rect_takes c.loop-rects.invariant.read (sym c.loop-rects-test.ensures.byte))
