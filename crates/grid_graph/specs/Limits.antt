-- The limits of the numbers of a design.
use Rattle.std.specs.Prelude.{ℕ, ◌^◌}

-- the greatest capacity of an edge
abbrev pub max_capacity : ℕ
max_capacity = 2 ^ 18

-- the greatest demand of a net on an edge
abbrev pub max_demand : ℕ
max_demand = 1023

-- no number of a design is further than this from zero
abbrev pub max_number : ℕ
max_number = 2 ^ 40

-- the greatest id of a net
abbrev pub max_id : ℕ
max_id = 4294967295

-- the most nets of a design
abbrev pub max_nets : ℕ
max_nets = 2 ^ 22

-- the most pins over all nets of a design
abbrev pub max_pins : ℕ
max_pins = 2 ^ 24

-- the greatest weight of a piece in a search
abbrev pub max_weight : ℕ
max_weight = 2 ^ 38

-- the greatest load of an edge, or of the wirelength
abbrev pub max_load : ℕ
max_load = 2 ^ 62

-- the greatest budget of the wirelength
abbrev pub max_budget : ℕ
max_budget = 2 ^ 42
