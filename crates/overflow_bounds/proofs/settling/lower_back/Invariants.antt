use Rattle.std.proofs.Common.{◌≡◌, ◌-◌, IsTrue, length}
use Rattle.std.specs.List.{AllWithin}
use Rattle.overflow_bounds.specs.NodeRows.{LowersTo, RisesAlongLink}
use Rattle.overflow_bounds.proofs.settling.lower_back.Given as goal

abbrev pub invariant-loop-behind : goal.invariant-loop-behind
invariant-loop-behind l = record {
  lowered : LowersTo l.initial.row l.row;
  same : IsTrue l.all_low → l.row ≡ l.initial.row;
  rises : IsTrue l.all_low → AllWithin (RisesAlongLink l.row) l.links (length l.links - l.behind) (length l.links);
}
