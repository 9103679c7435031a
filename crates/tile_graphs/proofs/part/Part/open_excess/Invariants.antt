use Rattle.std.proofs.Common.{◌≡◌, take}
use Rattle.std.specs.List.{sum_by}
use Rattle.tile_graphs.specs.Fullness.{in_word}
use Rattle.tile_graphs.specs.Links.{open_excess_of}
use Rattle.tile_graphs.proofs.part.Part.open_excess.Given as goal

-- the sum so far
abbrev pub invariant-loop-edge : goal.invariant-loop-edge
invariant-loop-edge l = l.open ≡ in_word (sum_by (open_excess_of l.totals l.are_settled) (take l.edge-index l.self.edges.items))
