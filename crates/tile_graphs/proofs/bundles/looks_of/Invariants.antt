use Rattle.std.proofs.Common.{◌≡◌, take}
use Rattle.std.specs.List.{sum_by}
use Rattle.tile_graphs.specs.Bundles.{looks_of_bundle}
use Rattle.tile_graphs.specs.Fullness.{in_word}
use Rattle.tile_graphs.proofs.bundles.looks_of.Given as goal

-- the sum so far
abbrev pub invariant-loop-bundle : goal.invariant-loop-bundle
invariant-loop-bundle l = l.looks ≡ in_word (sum_by (looks_of_bundle l.links l.nodes) (take l.bundle-index l.bundles))
