-- A table that holds is at most every joining set.
use Rattle.steiner_tables.proofs.Roots.{holds_at_root}
use Rattle.steiner_tables.proofs.Tables.{holds_for_sets}
use Rattle.steiner_tables.proofs.laws.holding_tables_bound_sets.Goals as goal

pub returns-clause-sets : goal.returns-clause-sets
returns-clause-sets c pieces last number set mask v holds bits is some within joins =
    holds_for_sets c.args.size.now pieces c.args.terminals.now last number holds bits set is mask v some within joins

pub returns-clause-root : goal.returns-clause-root
returns-clause-root c pieces number set root holds two at is joins =
    holds_at_root c.args.size.now pieces c.args.terminals.now number set root holds two at is joins
