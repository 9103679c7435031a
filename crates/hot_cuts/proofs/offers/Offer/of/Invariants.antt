use Rattle.std.proofs.Common.{◌≡◌, take}
use Rattle.std.specs.List.{flat_map}
use Rattle.hot_cuts.specs.Offers.{offered_price}
use Rattle.hot_cuts.proofs.offers.Offer.of.Given as goal

-- the prices of the tile edges so far
abbrev pub invariant-loop-edge : goal.invariant-loop-edge
invariant-loop-edge l = l.offered.items ≡ flat_map (offered_price l.prices) (take l.edge-index l.part.edges.items)
