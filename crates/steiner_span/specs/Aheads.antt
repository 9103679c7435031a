-- What is still to go to the nearest of some places.
use Rattle.std.specs.Prelude.{ℕ, List, [], ◌∷◌, min}
use Rattle.std.specs.List.{Contains}
use Rattle.grid_base.specs.declared.place.Place.{Place}
use Rattle.grid_base.specs.declared.size.Size.{Size}
use Rattle.grid_base.specs.Numbers.{IsVertex, place_at}
use Rattle.grid_graph.specs.declared.floors.Floors.{Floors}
use Rattle.label_search.specs.Floors.{floor_rest}
use Rattle.label_search.specs.Stamped.{far}

-- the least grid distance to one of the places, each step at its floor
abbrev pub least_rest : Size → Floors → List Place → ℕ → ℕ
least_rest s floors [] v = far
least_rest s floors (goal ∷ goals) v = min (floor_rest s floors goal v) (least_rest s floors goals v)

-- the vertex stands at one of the places
abbrev pub StandsIn : Size → List Place → ℕ → Type 0
StandsIn s left v = IsVertex s v × Contains left (place_at s v)
