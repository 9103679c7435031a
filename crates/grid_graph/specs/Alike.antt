-- Grids and designs that no promise tells apart.
use Rattle.std.specs.Prelude.{◌≡◌, ℕ}
use Rattle.grid_graph.specs.declared.design.Design.{Design}
use Rattle.grid_graph.specs.declared.grid.Grid.{Grid}
use Rattle.grid_graph.specs.Grids.{size_of, layout_of, capacity, kind, demand_on, position_of}

-- two grids of one size and layout, with the same kind, capacity and demands of each edge number and the same position of each vertex
pub record AreAlike (g h : Grid) : Type 0 where
  pub size : size_of g ≡ size_of h
  pub layout : layout_of g ≡ layout_of h
  pub kinds : (e : ℕ) → kind g e ≡ kind h e
  pub capacities : (e : ℕ) → capacity g e ≡ capacity h e
  pub demands : (width e : ℕ) → demand_on g width e ≡ demand_on h width e
  pub positions : (v : ℕ) → position_of g v ≡ position_of h v

-- two designs with alike grids and the same nets
pub record AreAlikeDesigns (d e : Design) : Type 0 where
  pub grids : AreAlike d.grid e.grid
  pub nets : d.nets ≡ e.nets
