use Rattle.std.proofs.Common.{◌≡◌, ◌<◌, ◌+◌, ℕ, take}
use Rattle.grid_graph.specs.Grids.{entries}
use Rattle.load_core.specs.Parties.{share_at}
use Rattle.load_table.specs.Holdings.{IsShare}
use Rattle.tree_set.specs.Loads.{load_on}
use Rattle.price_workers.specs.TreeLoads.{DiffersInShares}
use Rattle.rounding_pick.proofs.taking.take_routing.Given as goal

-- the load of the nets so far was taken off
abbrev pub invariant-loop-position : goal.invariant-loop-position
invariant-loop-position l = record {
  shares : (r : ℕ) → r < entries l.design.grid → share_at r l.initial.share.party ≡ share_at r l.share.party + load_on l.design.grid l.design.nets (take l.position l.trees) r;
  party : DiffersInShares l.initial.share.party l.share.party;
  table : l.share.table ≡ l.initial.share.table;
  valid : IsShare l.share;
}
