use Rattle.std.specs.Ordering.{nat_cmp}
use Rattle.std.specs.BTreeSet.{contains}
use Rattle.grid_graph.proofs.WithoutRepeats.{AreTerminals}
use Rattle.grid_graph.proofs.terms.terms_of.Given as goal

abbrev pub invariant-loop-v : goal.invariant-loop-v
invariant-loop-v l = AreTerminals l.vertices l.v-index (contains nat_cmp l.seen) l.terms.items
