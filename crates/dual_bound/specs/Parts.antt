-- How the nets of a design are divided in parts, each of which is summed alone.
use Rattle.std.specs.Prelude.{ℕ, ◌+◌, List, length}
use Rattle.std.specs.List.{slice_range}
use Rattle.even_parts.specs.EvenParts.{part_start}
use Rattle.grid_graph.specs.declared.grid.Grid.{Grid}
use Rattle.grid_graph.specs.declared.net_spec.NetSpec.{NetSpec}
use Rattle.grid_graph.specs.Grounds.{AreGrounds}
use Rattle.dual_bound.specs.declared.priced.Priced.{Priced}
use Rattle.dual_bound.specs.DesignBounds.{IsSumOfBounds}

-- the grid, and the nets
abbrev pub priced_grid : Priced → Grid
priced_grid p = p.design.now.grid

abbrev pub priced_nets : Priced → List NetSpec
priced_nets p = p.design.now.nets

-- the nets have these grounds
abbrev pub HasGrounds : Priced → Type 0
HasGrounds p = AreGrounds (priced_grid p) (priced_nets p) p.grounds.now

-- the sum of the net bounds of some of the nets
abbrev pub IsSumOver : Priced → List NetSpec → ℕ → Type 0
IsSumOver p nets total = IsSumOfBounds (priced_grid p) p.prices.now p.budget nets total

-- that of the nets of a part
abbrev pub IsSumOfPart : Priced → ℕ → ℕ → ℕ → Type 0
IsSumOfPart p parts part total =
    let nets : List NetSpec = priced_nets p in
    IsSumOver p (slice_range nets (part_start parts (length nets) part) (part_start parts (length nets) (part + 1))) total
