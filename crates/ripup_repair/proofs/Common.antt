-- Words of lower crates, and of this one's specs, that several files of proofs take.
pub use Rattle.std.proofs.Math.Seq.{set-append_seam, take-append_seam}
pub use Rattle.std.proofs.lemmas.Bool.{cases_lt, cond_both, le-ltb, lt-ltb}
pub use Rattle.std.proofs.lemmas.List.{append-nil, append_assoc, drop_more, get_or-append_right, get_or-set_other}
pub use Rattle.std.proofs.lemmas.List.{get_or-set_same, get_or-take, get_or_past, length-replicate, length-set, length-take}
pub use Rattle.std.proofs.lemmas.List.{set-get_or, set-set, set_comm, take_all, take_more}
pub use Rattle.std.proofs.lemmas.List.Elements.{All-cons, All-filter, All-head, All-nil, All-tail, All-take, filter_more}
pub use Rattle.std.proofs.lemmas.List.FromFn.{fill_by_all, get_or-map-range_with_len, get_or-range_with_len}
pub use Rattle.std.proofs.lemmas.List.FromFn.{length-map-range_with_len, length-range_with_len}
pub use Rattle.std.proofs.lemmas.List.Sums.{count_by-le-length, length-filter, sum_by-le}
pub use Rattle.std.proofs.lemmas.Option.{get_or_from_slice_get, same_Some, slice_get-get_or, slice_get_within}
pub use Rattle.std.proofs.lemmas.Slice.Zip.{AllZip-long, get_or-zip, length-zip}
pub use Rattle.std.specs.List.{filter, flat_map, list_any, range_with_len, sum, zip}
pub use Rattle.atomic_table.specs.Seated.{TableId}
pub use Rattle.grid_base.specs.Lists.{At}
pub use Rattle.grid_base.specs.Numbers.{IsPiece, vertices}
pub use Rattle.grid_base.specs.declared.piece.Piece.{Piece}
pub use Rattle.grid_graph.specs.Grids.{IsNetWidth, capacity, demand_on, edge_numbers, entries, kind, size_of}
pub use Rattle.grid_graph.specs.declared.design.Design.{Design}
pub use Rattle.grid_graph.specs.declared.grid.Grid.{Grid}
pub use Rattle.grid_graph.specs.declared.net_spec.NetSpec.{NetSpec}
pub use Rattle.load_core.specs.Parties.{share_at}
pub use Rattle.load_table.specs.Holdings.{Holding, IsShare}
pub use Rattle.price_workers.proofs.TurnFacts.{At-read, route_pieces, stands}
pub use Rattle.ripup_repair.specs.Exchanged.{with_elements}
pub use Rattle.ripup_repair.specs.RoundsDone.{AreRoundsDone, HasLoadOf, IsRoundDone}
pub use Rattle.routing_passes.proofs.PartSteps.{routing_pieces, sets_within}
pub use Rattle.routing_passes.proofs.Positions.{AreWithin, at_positions-at, at_positions-cons, at_positions-long, first_within}
pub use Rattle.routing_passes.proofs.Positions.{one_here, rest_within}
pub use Rattle.routing_passes.proofs.Sums.{load_between-here, load_on-cons, no_load}
pub use Rattle.routing_passes.specs.Passes.{AreSets, IsPass, Pass, ServesTurns, old_load, old_sets, pass_nets, pass_of}
pub use Rattle.routing_passes.specs.Passes.{positions_load, turns_start}
pub use Rattle.sharing_runs.proofs.Between.{load_list-at, load_list-long, load_on-none}
pub use Rattle.sharing_runs.specs.RepairRuns.{IsRepairResult, IsRepairRound, IsRepairRun, IsRepairTurn, at_positions}
pub use Rattle.sharing_runs.specs.RepairRuns.{holds_overfull, is_overfull, is_overfull_edge, nets_to_repair, repair_scale}
pub use Rattle.sharing_runs.specs.RepairRuns.{routing_overflow}
pub use Rattle.tree_set.specs.Loads.{holds, load, load_list, load_on, max_tree_load, net_load}
pub use Rattle.tree_set.specs.Measures.{excess, overflow, wirelength}
pub use Rattle.tree_set.specs.Order.{IsRising}
pub use Rattle.tree_set.specs.Routings.{ArePieces, IsRoute, IsRouting}
