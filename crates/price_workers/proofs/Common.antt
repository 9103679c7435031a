-- Words of lower crates, and of this one's specs, that several files of proofs take.
pub use Rattle.std.proofs.lemmas.Bool.{cases_eq, cases_lt, cond_both}
pub use Rattle.std.proofs.lemmas.List.{append-nil, ext_get_or, get_or-set_other, get_or-set_same, get_or_past}
pub use Rattle.std.proofs.lemmas.List.{get_or_push, length-set, length-take, take_all, take_more}
pub use Rattle.std.proofs.lemmas.List.FromFn.{fill_by_all, get_or-map-range_with_len, length-map-range_with_len}
pub use Rattle.std.proofs.lemmas.Option.{get_or_from_slice_get, same_Some, slice_get-get_or, slice_get_within}
pub use Rattle.std.specs.List.{Contains, range_with_len, sum_by}
pub use Rattle.atomic_table.specs.Seated.{TableId}
pub use Rattle.edge_prices.specs.KeptLists.{KeepsSetting, budget_of, grid_of, loads_of, scale_of, vector_of}
pub use Rattle.edge_prices.specs.Weights.{edge_cost, is_open, piece_weight, wirelength_price}
pub use Rattle.grid_base.specs.Lists.{At}
pub use Rattle.grid_base.specs.Walks.{InVertices, Joins, JoinsList}
pub use Rattle.grid_base.specs.declared.piece.Piece.{Piece}
pub use Rattle.grid_base.specs.declared.size.Size.{Size}
pub use Rattle.grid_base.specs.declared.vertex.Vertex.{Vertex}
pub use Rattle.grid_graph.specs.Grids.{Allows, IsNetWidth, demand_on, edge_numbers, entries, size_of}
pub use Rattle.grid_graph.specs.Grounds.{IsGround}
pub use Rattle.grid_graph.specs.Limits.{max_demand, max_weight}
pub use Rattle.grid_graph.specs.Weighed.{IsAllowed}
pub use Rattle.grid_graph.specs.declared.grid.Grid.{Grid}
pub use Rattle.grid_graph.specs.declared.net_spec.NetSpec.{NetSpec}
pub use Rattle.load_core.specs.Parties.{entry, loaded, share_at}
pub use Rattle.load_core.specs.declared.party.Party.{Party}
pub use Rattle.load_table.specs.Holdings.{Holding, IsShare, held}
pub use Rattle.load_table.specs.Runs.{LoadsBetween}
pub use Rattle.price_workers.specs.Marks.{IsFoundBetween, KeepsFound, MarksChanges, MarksEdges, MarksTree, entries_per_mark, mark_for}
pub use Rattle.price_workers.specs.Readings.{AreCloseTo, after_reading}
pub use Rattle.price_workers.specs.TreeLoads.{DiffersInShares, GainsTree, HasRoomForSet, HoldsTree, without_tree}
pub use Rattle.sharing_runs.proofs.Kept.{KeepsSetting-trans, net_load-beyond, tree_load-added}
pub use Rattle.sharing_runs.specs.NetSteps.{IsLightest, IsStep, IsStepAt, set_weight, weighed}
pub use Rattle.steiner_exact.specs.LeastSets.{IsLeastSet, IsLeastTree}
pub use Rattle.steiner_span.specs.LightTrees.{IsLightTree}
pub use Rattle.tree_set.proofs.Loads.{IsCounted, IsCounted-edge, IsCounted-via, edge_number}
pub use Rattle.tree_set.specs.Loads.{holds, is_edge_of, load_on, max_tree_load, net_load, tree_load}
pub use Rattle.tree_set.specs.Order.{IsRising}
pub use Rattle.tree_set.specs.Routings.{ArePieces, IsRoute, KeepsTo}
