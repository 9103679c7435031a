use Rattle.price_workers.proofs.Common.{loads_of, KeepsSetting, IsCounted}
use Rattle.price_workers.proofs.loads.notice_edges.Given as goal

-- the edges so far were put on
abbrev pub invariant-loop-p : goal.invariant-loop-p
invariant-loop-p l = record {
  seen : IsCounted l.grid l.width l.p-items l.p-index (loads_of l.initial.kept) (loads_of l.kept);
  setting : KeepsSetting l.initial.kept l.kept;
}
