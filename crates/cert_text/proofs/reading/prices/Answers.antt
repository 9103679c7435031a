use Rattle.std.proofs.Common.{ℕ, ◌≤◌, arith}
use Rattle.std.proofs.lemmas.List.{length_push}
use Rattle.std.proofs.lemmas.List.Elements.{All-push}
use Rattle.text_scan.proofs.InTurn.{goes_on}
use Rattle.cert_text.specs.declared.cert_error.CertError.TheVariants.{PriceLimit}
use Rattle.cert_text.specs.CertTokens.{limited_at}
use Rattle.cert_text.specs.Limits.{max_stated_price}
use Rattle.cert_text.specs.StatedCerts.{prices_at}
use Rattle.cert_text.proofs.reading.prices.Goals as goal

pub loop-preserved : goal.loop-preserved
loop-preserved c =
    let so_far = c.loop.invariant in
    let before = c.loop.prices.items in
    let one = c.in_ok-price.field-0 in
    rw c.in_ok-push.ensures.items (record {
      read = goes_on (λ _. limited_at PriceLimit 0 max_stated_price) before _ c.loop.counter c.loop.scanner one c.price.new.scanner (prices_at c.args.scanner.now) c.loop-test.true c.in_ok-price.ensures.price so_far.read;
      few = so_far.few;
      long = omega (arith, length_push before one, so_far.long);
      range = All-push (λ (x : ℕ). x ≤ max_stated_price) before one so_far.range c.in_ok-price.ensures.range;
    })
