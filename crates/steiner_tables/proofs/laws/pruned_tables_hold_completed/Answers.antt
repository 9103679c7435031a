-- What was pruned is completed by the bounds under which it was.
use Rattle.steiner_tables.proofs.Pruned.{completed_holds, pruned_label}
use Rattle.steiner_tables.proofs.laws.pruned_tables_hold_completed.Goals as goal

pub returns-clause-completed : goal.returns-clause-completed
returns-clause-completed c pieces last low limit far number family below small pruned =
    completed_holds c.args.size.now pieces c.args.terminals.now last low limit far number
    (record { family = family; below = below; limit_below = small; pruned = pruned })

pub returns-clause-labels : goal.returns-clause-labels
returns-clause-labels c pieces last low limit far number mask v family below small pruned some within =
    pruned_label c.args.size.now pieces c.args.terminals.now last low limit far number
    (record { family = family; below = below; limit_below = small; pruned = pruned }) mask v some within
