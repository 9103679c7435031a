-- Units of edges by their layers, and where they count.
use Rattle.std.specs.Prelude.{ℕ, ◌≡◌, ◌-◌, ◌*◌, ◌%◌, ◌<◌, ◌≤◌, List, Contains, cond, ltb, max, slice_index}
use Rattle.grid_base.specs.Numbers.{edge_start, layer_of}
use Rattle.grid_graph.specs.declared.design.Design.{Design}
use Rattle.grid_graph.specs.declared.grid.Grid.{Grid}
use Rattle.grid_graph.specs.declared.net_spec.NetSpec.{NetSpec}
use Rattle.grid_graph.specs.Grids.{capacity, demand_on, edge_numbers, size_of}
use Rattle.grid_graph.specs.Limits.{max_demand}

-- the unit of an edge's layer
abbrev pub layer_unit : Grid → List ℕ → ℕ → ℕ
layer_unit g units e = max 1 (slice_index units (layer_of (size_of g) (edge_start e)))

-- so much is missing to a unit more than the whole ones of the capacity
abbrev pub missing : Grid → List ℕ → ℕ → ℕ
missing g units e = layer_unit g units e - capacity g e % layer_unit g units e

-- the unit by which an edge counts at a divisor: that of its layer where a unit costs no more at the edge's price than what is
-- missing does at the divisor, else 1
abbrev pub unit_at : Grid → List ℕ → List ℕ → ℕ → ℕ → ℕ
unit_at g prices units most e =
    cond (ltb (most * missing g units e) (slice_index prices e * layer_unit g units e)) 1 (layer_unit g units e)

-- each net uses a multiple of a layer's unit of its edges, and no unit is above the greatest demand
pub record AreLayerUnits (d : Design) (units : List ℕ) : Type 0 where
  pub divides : (e : ℕ) (n : NetSpec) → e < edge_numbers d.grid → Contains d.nets n → demand_on d.grid n.width e % layer_unit d.grid units e ≡ 0
  pub small : (e : ℕ) → layer_unit d.grid units e ≤ max_demand
