-- What floors of weights leave to go.
use Rattle.std.specs.Prelude.{ℕ, ◌+◌, ◌*◌, cond, ltb}
use Rattle.std.specs.Int.{abs_diff}
use Rattle.grid_base.specs.declared.place.Place.{Place}
use Rattle.grid_base.specs.declared.size.Size.{Size}
use Rattle.grid_base.specs.Numbers.{vertices, place_at}
use Rattle.grid_graph.specs.declared.floors.Floors.{Floors}

-- the grid distance of two places, each step at its floor
abbrev pub floor_distance : Floors → Place → Place → ℕ
floor_distance floors p q =
    abs_diff p.col q.col * floors.along_x + abs_diff p.row q.row * floors.along_y + abs_diff p.layer q.layer * floors.via

-- the same from a vertex; 0 from what is no vertex
abbrev pub floor_rest : Size → Floors → Place → ℕ → ℕ
floor_rest s floors goal v = cond (ltb v (vertices s)) (floor_distance floors (place_at s v) goal) 0
