use Rattle.std.proofs.Common.{◌≡◌, IsTrue}
use Rattle.std.specs.List.{AllWithin}
use Rattle.overflow_bounds.specs.NodeRows.{LowersTo, RisesAlongLink}
use Rattle.overflow_bounds.proofs.settling.lower_forth.Given as goal

abbrev pub invariant-loop-link : goal.invariant-loop-link
invariant-loop-link l = record {
  lowered : LowersTo l.initial.row l.row;
  same : IsTrue l.all_low → l.row ≡ l.initial.row;
  rises : IsTrue l.all_low → AllWithin (RisesAlongLink l.row) l.links 0 l.link-index;
}
