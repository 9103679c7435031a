use Rattle.std.proofs.Common.{◌≡◌, ◌*◌, ◌^◌, drop}
use Rattle.tile_graphs.specs.Bundles.{ends_before_none, sets_of_ends}
use Rattle.tile_graphs.proofs.ends.Ends.sets.Given as goal

-- the sets of the nodes so far, and as many times more as the other nodes make
abbrev pub invariant-loop-place : goal.invariant-loop-place
invariant-loop-place l = l.sets * 2 ^ ends_before_none (drop l.place l.self.nodes) ≡ sets_of_ends l.self.nodes
