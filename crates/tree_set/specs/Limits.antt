-- The limits of loads.
use Rattle.std.specs.Prelude.{ℕ, ◌^◌}

-- no routing of a design has a greater load on an edge
abbrev pub max_routing_load : ℕ
max_routing_load = 2 ^ 32
