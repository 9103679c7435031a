-- What the text of a generated design says, in the words of the format.
use Rattle.std.specs.Prelude.{ℕ, ◌/◌, List, ◌++◌, map, codes, decimal, pos, Some}
use Rattle.std.specs.List.{range_with_len}
use Rattle.grid_base.specs.declared.axis.Axis.TheVariants.{X}
use Rattle.grid_base.specs.Numbers.{edge_along}
use Rattle.gr_make.specs.declared.shape.Shape.{Shape}
use Rattle.gr_make.specs.MadeAdjustments.{MadeAdjustment, made_adjustments}
use Rattle.gr_make.specs.MadeNets.{MadeNet, tile_side, made_nets}
use Rattle.gr_make.specs.MadeText.{vertical_level, horizontal_level}
use Rattle.ispd_reader.specs.Adjustments.{Adjustment}
use Rattle.ispd_reader.specs.Designs.{Contents}
use Rattle.ispd_reader.specs.Header.{Extent, Header}
use Rattle.ispd_reader.specs.Nets.{Net, vertex_at, without_repeats}

-- a number for each layer; layers count from 1
abbrev pub for_layers : Shape → (ℕ → ℕ) → List ℕ
for_layers shape number = map number (range_with_len 1 shape.layers)

-- the size of the grid
abbrev pub made_extent : Shape → Extent
made_extent shape = record { cols = shape.cols; rows = shape.rows; layers = shape.layers }

-- all that stands before the nets: square tiles from the origin on, and minimum widths and spacings of 1
abbrev pub made_header : Shape → Header
made_header shape = record {
  extent = made_extent shape;
  vertical = for_layers shape vertical_level;
  horizontal = for_layers shape horizontal_level;
  widths = for_layers shape (λ layer. 1);
  spacings = for_layers shape (λ layer. 1);
  origin = (pos 0, pos 0);
  tile = (pos tile_side, pos tile_side);
}

-- the vertex of a pin: that of its tile, on the first layer
abbrev pub pin_vertex : Shape → ℕ × ℕ → ℕ
pin_vertex shape pin = vertex_at (made_extent shape) (pin.0 / tile_side) (pin.1 / tile_side) 0

-- a net, with its terminals
abbrev pub net_made : Shape → MadeNet → Net
net_made shape net = record {
  id = net.number;
  name = codes "n" ++ decimal net.number;
  width = 1;
  terminals = without_repeats (map (pin_vertex shape) net.pins);
}

-- an adjustment, with the edge from its tile to the next column
abbrev pub adjustment_made : Shape → MadeAdjustment → Adjustment
adjustment_made shape a = record { edge = Some ((edge_along X (vertex_at (made_extent shape) a.col a.row 0)).0); level = a.level }

-- what the text says: as many nets and adjustments as were made, in order
abbrev pub made_contents : ℕ → Shape → Contents
made_contents seed shape = record {
  header = made_header shape;
  nets = map (net_made shape) (made_nets seed shape);
  adjustments = map (adjustment_made shape) (made_adjustments seed shape);
}
