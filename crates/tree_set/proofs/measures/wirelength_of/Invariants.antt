use Rattle.std.proofs.Common.{◌≡◌, ◌≤◌, ◌*◌, length, sum_by, take}
use Rattle.tree_set.proofs.measures.wirelength_of.Given as goal
use Rattle.grid_base.specs.Limits.{max_vertices}

-- the pieces of the trees so far, each of which has at most three per vertex
abbrev pub invariant-loop-tree : goal.invariant-loop-tree
invariant-loop-tree l = record {
  total : l.total ≡ sum_by length (take l.tree-index l.trees);
  small : l.total ≤ l.tree-index * (3 * max_vertices);
}
