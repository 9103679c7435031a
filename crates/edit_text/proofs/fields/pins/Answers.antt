use Rattle.std.proofs.Common.{arith}
use Rattle.std.proofs.lemmas.List.{length_push}
use Rattle.std.proofs.lemmas.List.Elements.{All-push}
use Rattle.std.proofs.lemmas.Result.{err_from_is_err_and}
use Rattle.text_scan.proofs.InTurn.{goes_on, ends, is_done}
use Rattle.edit_text.specs.EditFaults.{edit_refused_at}
use Rattle.edit_text.specs.EditRanges.{IsPinInRange}
use Rattle.edit_text.specs.ReadEdits.{pin_at, pins_at}
use Rattle.edit_text.proofs.fields.pins.Goals as goal

pub loop-preserved : goal.loop-preserved
loop-preserved c =
    let so_far = c.loop.invariant in
    let before = c.loop.pins.items in
    let one = c.in_ok-pin.field-0 in
    rw c.in_ok-push.ensures.items (record {
      long = omega (arith, length_push before one, so_far.long);
      read = goes_on (λ _. pin_at) before c.args.count c.loop.counter c.loop.scanner one c.pin.new.scanner (pins_at c.args.count c.args.scanner.now) c.loop-test.true c.in_ok-pin.ensures.pin so_far.read;
      range = All-push IsPinInRange before one so_far.range c.in_ok-pin.ensures.range;
    })

pub returns-in_err-pin-clause-pins : goal.returns-in_err-pin-clause-pins
returns-in_err-pin-clause-pins c =
    let p = err_from_is_err_and c.from_residual.result c.from_residual.ensures.1 in
    rw (p.1, p.2) (ends edit_refused_at (λ _. pin_at) c.in_err-pin.field-0.0 c.loop.pins.items c.args.count c.loop.counter c.loop.scanner (pins_at c.args.count c.args.scanner.now) c.loop-test.true c.in_err-pin.ensures.pin c.loop.invariant.read)

pub returns-clause-pins : goal.returns-clause-pins
returns-clause-pins c =
    is_done (λ _. pin_at) c.loop.pins.items c.args.count c.loop.counter c.loop.scanner (pins_at c.args.count c.args.scanner.now) c.loop-test.false c.loop.invariant.read
