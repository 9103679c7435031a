-- What rerouting works with beside the sets.
use Rattle.std.specs.Prelude.{◌≡◌, ◌<◌, length}
use Rattle.grid_graph.specs.declared.design.Design.{Design}
use Rattle.grid_graph.specs.Grids.{edge_numbers}
use Rattle.net_extents.specs.Extents.{AreExtents}
use Rattle.negotiation.specs.declared.tools.Tools.{Tools}

-- there is a worker, how far each net reaches, a margin for each net, and a price for each edge number
pub record AreToolsFor (d : Design) (t : Tools) : Type 0 where
  pub workers : 0 < length t.growths.items
  pub extents : length t.extents.items ≡ length d.nets
  pub own : AreExtents d t.extents.items
  pub margins : length t.margins.items ≡ length d.nets
  pub prices : length t.prices.prices.items ≡ edge_numbers d.grid
