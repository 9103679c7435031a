use Rattle.std.proofs.Common.{◌≡◌}
use Rattle.price_workers.proofs.Common.{IsShare, IsCounted, DiffersInShares}
use Rattle.price_workers.proofs.taking.take_edges.Given as goal

-- the edges so far were taken off
abbrev pub invariant-loop-p : goal.invariant-loop-p
invariant-loop-p l = record {
  shares : IsCounted l.grid l.width l.p-items l.p-index l.share.party.shares l.initial.share.party.shares;
  party : DiffersInShares l.initial.share.party l.share.party;
  table : l.share.table ≡ l.initial.share.table;
  valid : IsShare l.share;
}
