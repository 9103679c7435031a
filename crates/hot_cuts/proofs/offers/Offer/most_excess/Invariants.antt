use Rattle.std.proofs.Common.{◌≡◌, slice_index_or, take}
use Rattle.std.specs.List.{sum_by}
use Rattle.tile_graphs.specs.Fullness.{excess_of, in_word, no_total}
use Rattle.hot_cuts.proofs.offers.Offer.most_excess.Given as goal

-- the sum so far
abbrev pub invariant-loop-priced : goal.invariant-loop-priced
invariant-loop-priced l =
    l.most ≡ in_word (sum_by (λ priced. excess_of (slice_index_or l.totals priced.tile_edge no_total)) (take l.priced-index l.self.prices.items))
