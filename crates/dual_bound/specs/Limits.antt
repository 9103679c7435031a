-- The limits of net bounds, of what capacities cost and of what overflow a price list shows.
use Rattle.std.specs.Prelude.{ℕ, ◌-◌, ◌*◌, ◌^◌}
use Rattle.grid_base.specs.Limits.{max_vertices}
use Rattle.grid_graph.specs.Limits.{max_demand, max_nets}

-- the greatest cost of a piece: a demand at the greatest price, and the greatest price
abbrev pub max_piece_cost : ℕ
max_piece_cost = 2 ^ 25

-- the greatest bound of a net, which joins its terminals with fewer pieces than there are vertices
abbrev pub max_net_bound : ℕ
max_net_bound = (max_vertices - 1) * max_piece_cost

-- the greatest cost of an edge's capacity: the greatest capacity at the greatest price
abbrev pub max_edge_cost : ℕ
max_edge_cost = 2 ^ 33

-- the greatest cost of the wirelength's capacity: the greatest budget at the greatest price
abbrev pub max_wirelength_cost : ℕ
max_wirelength_cost = 2 ^ 57

-- in so many parts the nets are divided at most
abbrev pub max_parts : ℕ
max_parts = 8

-- the greatest overflow that a price list shows: each net pays the greatest price for a demand on fewer edges than there are vertices
abbrev pub max_least_overflow : ℕ
max_least_overflow = max_nets * ((max_vertices - 1) * max_demand)
