use Rattle.std.proofs.Common.{◌∙◌}
use Rattle.cert_text.specs.CertText.{price_text}
use Rattle.gr_desk.proofs.Pens.{puts-more, puts-whole}
use Rattle.cert_text.proofs.writing.put_prices.Goals as goal

pub loop-price-preserved : goal.loop-price-preserved
loop-price-preserved g c = record {
  same_desk = c.put_price.ensures.same_desk ∙ c.loop-price.invariant.same_desk;
  puts = puts-more price_text c.args.prices.now c.loop-price.price-index _ c.loop-price-test.true c.loop-price.invariant.puts c.put_price.ensures.puts;
}

pub returns-clause-puts : goal.returns-clause-puts
returns-clause-puts g c = puts-whole price_text c.args.prices.now c.loop-price.price-index c.loop-price-test.false c.loop-price.invariant.puts
