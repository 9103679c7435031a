use Rattle.std.proofs.Common.{◌≡◌, take}
use Rattle.std.specs.List.{sum_by}
use Rattle.tile_graphs.specs.Fullness.{excess_of, in_word}
use Rattle.tile_graphs.proofs.part.Part.excess.Given as goal

-- the sum so far
abbrev pub invariant-loop-link : goal.invariant-loop-link
invariant-loop-link l = l.excess ≡ in_word (sum_by (λ link. excess_of link.total) (take l.link-index l.self.links.items))
