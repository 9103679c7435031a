use Rattle.std.proofs.Common.{◌≡◌, take}
use Rattle.tile_graphs.specs.Bundles.{demand_of_bundles}
use Rattle.tile_graphs.specs.Fullness.{in_word}
use Rattle.tile_graphs.proofs.bundles.total_demand.Given as goal

-- the sum so far
abbrev pub invariant-loop-bundle : goal.invariant-loop-bundle
invariant-loop-bundle l = l.total ≡ in_word (demand_of_bundles (take l.bundle-index l.bundles))
