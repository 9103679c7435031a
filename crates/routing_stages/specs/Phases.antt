-- The load of the sets of several phases.
use Rattle.std.specs.Prelude.{ℕ, List, map}
use Rattle.std.specs.List.{range_with_len, sum_by}
use Rattle.grid_base.specs.declared.piece.Piece.{Piece}
use Rattle.grid_graph.specs.declared.grid.Grid.{Grid}
use Rattle.grid_graph.specs.declared.net_spec.NetSpec.{NetSpec}
use Rattle.grid_graph.specs.Grids.{entries}
use Rattle.tree_set.specs.Loads.{load_on}

-- the load of the sets of all phases on an entry
abbrev pub phases_load : Grid → List NetSpec → List (List (List Piece)) → ℕ → ℕ
phases_load g nets phases r = sum_by (λ trees. load_on g nets trees r) phases

-- the list of these loads
abbrev pub phases_loads : Grid → List NetSpec → List (List (List Piece)) → List ℕ
phases_loads g nets phases = map (phases_load g nets phases) (range_with_len 0 (entries g))
