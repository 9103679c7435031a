-- Weights that are raised, led by what tile edges weigh at least.
use Rattle.std.specs.Prelude.{ℕ, ◌+◌, List, min}
use Rattle.grid_graph.specs.declared.floors.Floors.{Floors}
use Rattle.grid_graph.specs.Limits.{max_weight}
use Rattle.lower_bound.specs.TileCosts.{cost_over}

-- what the edges over a tile edge weigh at least where each weighs so much more than the tile edge's cost
abbrev pub led_over : List ℕ → ℕ → ℕ → ℕ
led_over costs extra e = min (cost_over costs e + extra) max_weight

-- floors of costs, raised by as much; a via weighs no less than what is added
abbrev pub led_floors : Floors → ℕ → Floors
led_floors floors extra = record {
  along_x = min (floors.along_x + extra) max_weight;
  along_y = min (floors.along_y + extra) max_weight;
  via = extra;
}
