use Rattle.overflow_bounds.specs.NodeRows.{LowersTo}
use Rattle.overflow_bounds.proofs.Splits.{IsWithinBelow}
use Rattle.overflow_bounds.proofs.starting.lower_to_splits.Given as goal

abbrev pub invariant-loop-one : goal.invariant-loop-one
invariant-loop-one l = record {
  lowered : LowersTo l.initial.row l.row;
  splits : IsWithinBelow l.rows l.mask l.one l.row;
}
