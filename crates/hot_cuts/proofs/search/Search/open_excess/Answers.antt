use Rattle.std.proofs.Common.{◌∙◌, ap}
use Rattle.std.specs.List.{sum_by}
use Rattle.std.proofs.lemmas.Iterator.{YieldsList-from_slice, YieldsList-from_zip}
use Rattle.std.proofs.lemmas.Iterator.Consumers.{YieldsList-end}
use Rattle.tile_graphs.specs.Fullness.{in_word}
use Rattle.hot_cuts.specs.Searches.{excess_unless_settled}
use Rattle.hot_cuts.proofs.search.Search.open_excess.Goals as goal

pub returns : goal.returns
returns c =
    let end = YieldsList-end (YieldsList-from_zip (YieldsList-from_slice c.args.self.now.view.now.totals.items cc) (YieldsList-from_slice c.args.self.now.are_settled.items cc))
    c.loop-total.yielded _ c.loop-total.yielded_by _ c.next.new.self c.in-None.is c.next.ensures.steps in
    c.loop-total.invariant ∙ ap (λ pairs. in_word (sum_by excess_unless_settled pairs)) end.0
