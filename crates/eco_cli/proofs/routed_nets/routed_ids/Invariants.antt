use Rattle.std.specs.BTreeSet.{contains}
use Rattle.std.specs.Ordering.{nat_cmp}
use Rattle.eco_cli.proofs.RoutedIds.{AreRoutedSoFar}
use Rattle.eco_cli.proofs.routed_nets.routed_ids.Given as goal

-- the ids that the edits so far route
abbrev pub invariant-loop-edit : goal.invariant-loop-edit
invariant-loop-edit l = AreRoutedSoFar l.edits l.edit-index (contains nat_cmp l.ids)
