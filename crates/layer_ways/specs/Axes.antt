-- Along which axes layers have edges.
use Rattle.std.specs.Prelude.{false}
use Rattle.layer_ways.specs.declared.directions.Direction.{Direction}

-- a layer without edges
abbrev pub neither : Direction
neither = record { along_x = false; along_y = false }
