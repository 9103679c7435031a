-- The components of the vertices under both grounds.
use Rattle.std.specs.Prelude.{ℕ, ◌<◌, length}
use Rattle.grid_graph.specs.declared.grid.Grid.{Grid}
use Rattle.grid_graph.specs.declared.ground.Ground.TheVariants.{Open, WithChoked}
use Rattle.grid_graph.specs.declared.ground_components.GroundComponents.{GroundComponents}
use Rattle.grid_graph.specs.Components.{AreComponents}
use Rattle.grid_graph.specs.Grids.{size_of, Allows}

-- under each ground the components are those that its pieces join
pub record AreGroundComponents (g : Grid) (c : GroundComponents) : Type 0 where
  pub open_ones : AreComponents (size_of g) (Allows g Open) c.by_open.items
  pub choked_ones : AreComponents (size_of g) (Allows g WithChoked) c.by_choked.items

-- the vertex has a component under each
pub record HasComponents (c : GroundComponents) (v : ℕ) : Type 0 where
  pub by_open : v < length c.by_open.items
  pub by_choked : v < length c.by_choked.items
