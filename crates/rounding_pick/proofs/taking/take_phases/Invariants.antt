use Rattle.std.proofs.Common.{◌≡◌, ◌<◌, ◌+◌, ℕ, take}
use Rattle.grid_graph.specs.Grids.{entries}
use Rattle.load_core.specs.Parties.{share_at}
use Rattle.load_table.specs.Holdings.{IsShare}
use Rattle.routing_stages.specs.Phases.{phases_load}
use Rattle.price_workers.specs.TreeLoads.{DiffersInShares}
use Rattle.rounding_pick.proofs.taking.take_phases.Given as goal

-- the load of the phases so far was taken off
abbrev pub invariant-loop-trees : goal.invariant-loop-trees
invariant-loop-trees l = record {
  shares : (r : ℕ) → r < entries l.design.grid → share_at r l.initial.share.party ≡ share_at r l.share.party + phases_load l.design.grid l.design.nets (take l.trees-index l.phases) r;
  party : DiffersInShares l.initial.share.party l.share.party;
  table : l.share.table ≡ l.initial.share.table;
  valid : IsShare l.share;
}
