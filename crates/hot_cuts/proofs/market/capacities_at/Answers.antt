use Rattle.std.proofs.Common.{◌∙◌, ap, fold}
use Rattle.std.proofs.lemmas.Iterator.{YieldsList-from_slice, YieldsList-from_zip}
use Rattle.std.proofs.lemmas.Iterator.Consumers.{YieldsList-end}
use Rattle.hot_cuts.specs.Estimates.{no_estimate, with_link}
use Rattle.hot_cuts.proofs.market.capacities_at.Goals as goal

pub returns : goal.returns
returns c =
    let end = YieldsList-end (YieldsList-from_zip (YieldsList-from_slice c.args.links.now cc) (YieldsList-from_slice c.args.prices.now cc))
    c.loop-link.yielded _ c.loop-link.yielded_by _ c.next.new.self c.in-None.is c.next.ensures.steps in
    c.loop-link.invariant ∙ ap (fold with_link no_estimate) end.0
