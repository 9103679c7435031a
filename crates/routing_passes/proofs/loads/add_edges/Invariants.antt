use Rattle.tree_set.proofs.Loads.{IsCounted}
use Rattle.routing_passes.proofs.loads.add_edges.Given as goal

-- the edges so far were added
abbrev pub invariant-loop-p : goal.invariant-loop-p
invariant-loop-p l = IsCounted l.grid l.width l.p-items l.p-index l.initial.loads l.loads
