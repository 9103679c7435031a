use Rattle.std.proofs.Common.{◌≡◌, map}
use Rattle.std.specs.List.{range_with_len}
use Rattle.steiner_exact.specs.FlatPieces.{has_edge}
use Rattle.steiner_exact.proofs.flat_edges.flags_of.Given as goal

-- the flags of the numbers so far
abbrev pub invariant-loop-e : goal.invariant-loop-e
invariant-loop-e l = l.flags.items ≡ map (has_edge l.size) (range_with_len 0 l.e)
