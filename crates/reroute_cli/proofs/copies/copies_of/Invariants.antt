use Rattle.std.proofs.Common.{◌≡◌, take}
use Rattle.reroute_cli.proofs.copies.copies_of.Given as goal

abbrev pub invariant-loop-tree : goal.invariant-loop-tree
invariant-loop-tree l = l.copies.items ≡ take l.tree-index l.trees
