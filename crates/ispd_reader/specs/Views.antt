-- What the values of the program are in the words of the format.
use Rattle.std.specs.Prelude.{List, map}
use Rattle.grid_base.specs.declared.size.Size.{Size}
use Rattle.grid_base.specs.Numbers.{cols, rows, layers}
use Rattle.grid_graph.specs.declared.net_spec.NetSpec.{NetSpec}
use Rattle.grid_graph.specs.Layouts.{Layout}
pub use Rattle.grid_graph.specs.Terms.{numbers}
use Rattle.ispd_reader.specs.Header.{Extent, Header}
use Rattle.ispd_reader.specs.Nets.{Net}

-- the numbers of a size
abbrev pub extent_of_size : Size → Extent
extent_of_size s = record { cols = cols s; rows = rows s; layers = layers s }

-- a layout, with its size by numbers
abbrev pub header_of : Layout → Header
header_of y = record { extent = extent_of_size y.size; vertical = y.vertical; horizontal = y.horizontal; widths = y.widths; spacings = y.spacings; origin = y.origin; tile = y.tile }

-- a net, with its terminals by number
abbrev pub net_of : NetSpec → Net
net_of n = record { id = n.id; name = n.name; width = n.width; terminals = numbers n.terminals }

-- the nets of a design
abbrev pub nets_of : List NetSpec → List Net
nets_of nets = map net_of nets
