-- A vertex with its place.
use Rattle.std.specs.Prelude.{ℕ, ◌≡◌}
use Rattle.grid_base.specs.declared.place.Place.{Place}
use Rattle.grid_base.specs.declared.size.Size.{Size}
use Rattle.grid_base.specs.Numbers.{IsVertex, place_at, vertex_number}

-- the vertex stands at this place
pub record StandsAt (s : Size) (place : Place) (v : ℕ) : Type 0 where
  pub vertex : IsVertex s v
  pub placed : place ≡ place_at s v
  pub number : vertex_number s place.col place.row place.layer ≡ v
