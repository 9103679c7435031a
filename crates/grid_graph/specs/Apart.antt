-- Terminals that components tell apart.
use Rattle.std.specs.Prelude.{ℕ, ◌≡◌, ◌≢◌, ◌<◌, List, length, slice_index}
use Rattle.grid_base.specs.declared.vertex.Vertex.{Vertex}
use Rattle.grid_base.specs.Lists.{At}

-- the first n terminals have the component of the first one
abbrev pub AreInOneComponent : List ℕ → List Vertex → ℕ → Type 0
AreInOneComponent components terminals n =
    (i : ℕ) (first v : Vertex) → i < n → At terminals 0 first → At terminals i v → slice_index components v.0 ≡ slice_index components first.0

-- the terminal at this place is the first one of another component than the first one's
pub record IsFirstApart (components : List ℕ) (terminals : List Vertex) (place : ℕ) : Type 0 where
  pub exists : place < length terminals
  pub alike : AreInOneComponent components terminals place
  pub differs : (first v : Vertex) → At terminals 0 first → At terminals place v → slice_index components v.0 ≢ slice_index components first.0
