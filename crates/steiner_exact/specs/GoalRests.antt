-- What is still to go on a grid to a goal, by what is still to go between tiles.
use Rattle.std.specs.Prelude.{ℕ, ◌+◌, ◌-◌, ◌*◌, min}
use Rattle.grid_base.specs.declared.size.Size.{Size}
use Rattle.grid_base.specs.Numbers.{layer_of}
use Rattle.grid_graph.specs.Flat.{tile_of}
use Rattle.label_search.specs.Stamped.{far}

-- what is still to go from a vertex: across tiles, and so much for each layer between it and the goal's; at most far
abbrev pub rest_to : Size → ℕ → ℕ → (ℕ → ℕ) → ℕ → ℕ
rest_to s layer via across v = min (across (tile_of s v) + (layer_of s v - layer + (layer - layer_of s v)) * via) far
