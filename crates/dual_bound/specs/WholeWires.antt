-- Whole wires. Where each net uses a multiple of a unit of an edge, so does each routing of whole routes, and what the edge can
-- carry beyond its last whole unit serves nobody. A load above the capacity is then above it by what is missing to a whole unit
-- more, at least.
use Rattle.std.specs.Prelude.{ℕ, ◌≡◌, ◌-◌, ◌*◌, ◌%◌, ◌<◌, ◌≤◌, List, slice_index}
use Rattle.std.specs.List.{Contains, sum_by, range_with_len}
use Rattle.grid_graph.specs.declared.design.Design.{Design}
use Rattle.grid_graph.specs.declared.grid.Grid.{Grid}
use Rattle.grid_graph.specs.declared.net_spec.NetSpec.{NetSpec}
use Rattle.grid_graph.specs.Grids.{capacity, demand_on, edge_numbers}

-- a unit for each edge, of which every net uses a multiple there; 1 is always one
pub record AreUnits (d : Design) (units : ℕ → ℕ) : Type 0 where
  pub positive : (e : ℕ) → 0 < units e
  pub divides : (e : ℕ) (n : NetSpec) → e < edge_numbers d.grid → Contains d.nets n → demand_on d.grid n.width e % units e ≡ 0

-- what whole units can use of an edge
abbrev pub whole_capacity : Grid → (ℕ → ℕ) → ℕ → ℕ
whole_capacity g units e = capacity g e - capacity g e % units e

-- what these capacities cost
abbrev pub whole_cost : Grid → List ℕ → (ℕ → ℕ) → ℕ
whole_cost g prices units = sum_by (λ e. slice_index prices e * whole_capacity g units e) (range_with_len 0 (edge_numbers g))

-- a number that is positive, and at least the price of each edge for so much of a unit as one unit more would be above the capacity
pub record IsMostOfUnits (g : Grid) (prices : List ℕ) (units : ℕ → ℕ) (most : ℕ) : Type 0 where
  pub positive : 0 < most
  pub each : (e : ℕ) → e < edge_numbers g → slice_index prices e * units e ≤ most * (units e - capacity g e % units e)
