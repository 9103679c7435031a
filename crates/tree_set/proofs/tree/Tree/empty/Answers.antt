use Rattle.tree_set.proofs.Order.{empty-IsRising}
use Rattle.tree_set.proofs.tree.Tree.empty.Goals as goal

pub invariant_of-result : goal.invariant_of-result
invariant_of-result c = rw c.new.ensures.items empty-IsRising
