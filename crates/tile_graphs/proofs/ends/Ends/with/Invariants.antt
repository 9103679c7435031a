use Rattle.std.proofs.Common.{◌≡◌}
use Rattle.tile_graphs.specs.Bundles.{AreOthersBefore}
use Rattle.tile_graphs.proofs.ends.Ends.with.Given as goal

-- nothing is changed so far, and none of the places is that of the node
abbrev pub invariant-loop-place : goal.invariant-loop-place
invariant-loop-place l = record {
  same : l.nodes ≡ l.self.nodes;
  others : AreOthersBefore l.nodes l.node l.place;
}
