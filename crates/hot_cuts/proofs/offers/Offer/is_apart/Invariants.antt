use Rattle.std.proofs.Common.{◌≡◌, not, slice_index_or, take, true}
use Rattle.std.specs.List.{list_all}
use Rattle.hot_cuts.proofs.offers.Offer.is_apart.Given as goal

-- no tile edge so far is marked
abbrev pub invariant-loop-priced : goal.invariant-loop-priced
invariant-loop-priced l = list_all (λ priced. not (slice_index_or l.marks priced.tile_edge true)) (take l.priced-index l.self.prices.items) ≡ true
