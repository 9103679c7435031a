use Rattle.std.proofs.Common.{◌≡◌, length}
use Rattle.grid_base.specs.Numbers.{vertices}
use Rattle.overflow_bounds.proofs.merged_graph.unite_free.Given as goal

abbrev pub invariant-loop-e : goal.invariant-loop-e
invariant-loop-e g l = length l.groups.parents.items ≡ vertices l.fn.size
