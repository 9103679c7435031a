use Rattle.std.proofs.Common.{◌≡◌, true, false, not, length, refl, sym, ap, ◌∙◌, arith}
use Rattle.std.specs.Prelude.{is_none}
use Rattle.std.proofs.lemmas.Result.{err_from_is_err_and}
use Rattle.text_scan.specs.Reading.{past_blanks}
use Rattle.text_scan.proofs.Bounds.{one_more_part, part_refused, parts_ended}
use Rattle.text_scan.proofs.Parts.{Refuses-with}
use Rattle.guide_text.specs.GuideFaults.{guide_refused_at}
use Rattle.guide_text.specs.ReadGuides.{guide_at, guides_in, no_guide_follows}
use Rattle.guide_text.proofs.Takes.{next_guide_takes}
use Rattle.guide_text.proofs.reading.read_guides.Goals as goal

pub returns-in_err-guide-clause-refusal : goal.returns-in_err-guide-clause-refusal
returns-in_err-guide-clause-refusal c =
    let p = err_from_is_err_and c.from_residual.result c.from_residual.ensures.1 in
    let more : no_guide_follows c.loop-scanner.scanner ≡ false = ap is_none (sym c.peek.ensures.byte) ∙ ap not (sym c.loop-scanner-test.ensures) in
    rw (p.1, p.2) (Refuses-with guide_refused_at c.in_err-guide.field-0.0 _ (guides_in c.args.bytes.now)
    (λ at refused. rw (part_refused no_guide_follows past_blanks guide_at next_guide_takes c.loop-scanner.invariant.read more refused) refl) (rw c.peek.ensures.passed at c.in_err-guide.ensures.guide))

pub loop-scanner-preserved : goal.loop-scanner-preserved
loop-scanner-preserved c =
    let so_far = c.loop-scanner.invariant in
    let more : no_guide_follows c.loop-scanner.scanner ≡ false = ap is_none (sym c.peek.ensures.byte) ∙ ap not (sym c.loop-scanner-test.ensures) in
    let moves = c.in_ok-guide.ensures.passed in
    let text : c.guide.new.scanner.text ≡ c.args.bytes.now = moves.text ∙ c.peek.ensures.text ∙ so_far.text in
    rw c.in_ok-push.ensures.items (record {
      text = text;
      within = omega (arith, moves.within, ap length text);
      read = one_more_part no_guide_follows past_blanks guide_at next_guide_takes so_far.read more (rw c.peek.ensures.passed at c.in_ok-guide.ensures.guide);
    })

pub returns-clause-guides : goal.returns-clause-guides
returns-clause-guides c =
    let over : no_guide_follows c.loop-scanner.scanner ≡ true = ap is_none (sym c.peek.ensures.byte) ∙ ap not (sym c.loop-scanner-test.ensures) in
    rw (parts_ended no_guide_follows past_blanks guide_at next_guide_takes c.loop-scanner.invariant.read over) refl
