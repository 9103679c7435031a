use Rattle.overflow_bounds.specs.NodeRows.{LowersTo}
use Rattle.overflow_bounds.proofs.settling.settle.Given as goal

abbrev pub invariant-loop : goal.invariant-loop
invariant-loop l = LowersTo l.initial.row l.row
