use Rattle.std.proofs.Common.{arith}
use Rattle.std.proofs.lemmas.List.{length_push}
use Rattle.std.proofs.lemmas.List.Elements.{All-push}
use Rattle.std.proofs.lemmas.Result.{err_from_is_err_and}
use Rattle.text_scan.proofs.InTurn.{goes_on, ends, is_done}
use Rattle.edit_text.specs.EditFaults.{edit_refused_at}
use Rattle.edit_text.specs.EditRanges.{IsEditInRange}
use Rattle.edit_text.specs.ReadEdits.{edit_at, edits_at}
use Rattle.edit_text.proofs.reading.edits.Goals as goal

pub loop-preserved : goal.loop-preserved
loop-preserved c =
    let so_far = c.loop.invariant in
    let before = c.loop.edits.items in
    let one = c.in_ok-edit.field-0 in
    rw c.in_ok-push.ensures.items (record {
      long = omega (arith, length_push before one, so_far.long);
      read = goes_on (λ _. edit_at) before c.args.count c.loop.counter c.loop.scanner one c.edit.new.scanner (edits_at c.args.count c.args.scanner.now) c.loop-test.true c.in_ok-edit.ensures.edit so_far.read;
      range = All-push IsEditInRange before one so_far.range c.in_ok-edit.ensures.range;
    })

pub returns-in_err-edit-clause-edits : goal.returns-in_err-edit-clause-edits
returns-in_err-edit-clause-edits c =
    let p = err_from_is_err_and c.from_residual.result c.from_residual.ensures.1 in
    rw (p.1, p.2) (ends edit_refused_at (λ _. edit_at) c.in_err-edit.field-0.0 c.loop.edits.items c.args.count c.loop.counter c.loop.scanner (edits_at c.args.count c.args.scanner.now) c.loop-test.true c.in_err-edit.ensures.edit c.loop.invariant.read)

pub returns-clause-edits : goal.returns-clause-edits
returns-clause-edits c =
    is_done (λ _. edit_at) c.loop.edits.items c.args.count c.loop.counter c.loop.scanner (edits_at c.args.count c.args.scanner.now) c.loop-test.false c.loop.invariant.read
