use Rattle.std.proofs.Common.{◌≡◌}
use Rattle.price_workers.proofs.Common.{loads_of, KeepsSetting, IsShare, IsCounted, DiffersInShares}
use Rattle.price_workers.proofs.loads.put_edges.Given as goal

-- the edges so far were put on
abbrev pub invariant-loop-p : goal.invariant-loop-p
invariant-loop-p l = record {
  share : IsCounted l.grid l.width l.p-items l.p-index l.initial.share.party.shares l.share.party.shares;
  seen : IsCounted l.grid l.width l.p-items l.p-index (loads_of l.initial.kept) (loads_of l.kept);
  party : DiffersInShares l.initial.share.party l.share.party;
  table : l.share.table ≡ l.initial.share.table;
  setting : KeepsSetting l.initial.kept l.kept;
  valid : IsShare l.share;
}
