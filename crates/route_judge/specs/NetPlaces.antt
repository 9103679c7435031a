-- Where nets stand in a list, by their ids.
use Rattle.std.specs.Prelude.{ℕ, ◌≡◌, ◌<◌, List, length, Option, Some}
use Rattle.std.specs.BTreeMap.{get}
use Rattle.std.specs.Ordering.{nat_cmp}
use Rattle.grid_base.specs.Lists.{At}
use Rattle.grid_graph.specs.declared.net_spec.NetSpec.{NetSpec}
use Rattle.route_judge.specs.declared.net_places.NetPlaces.{NetPlaces}

-- the place of a net by its id
abbrev pub place_by_id : NetPlaces → ℕ → Option ℕ
place_by_id places id = get nat_cmp places.places id

-- these are the places of the first so many nets: at a place stands a net with its id, and each net stands at the place of its id
pub record ArePlacesBelow (nets : List NetSpec) (count : ℕ) (place_of : ℕ → Option ℕ) : Type 0 where
  pub stands : (id place : ℕ) → place_of id ≡ Some place → (place < count) × ((n : NetSpec) × At nets place n × (n.id ≡ id))
  pub known : (place : ℕ) (n : NetSpec) → place < count → At nets place n → place_of n.id ≡ Some place

-- these are the places of the nets
abbrev pub ArePlacesOf : List NetSpec → (ℕ → Option ℕ) → Type 0
ArePlacesOf nets place_of = ArePlacesBelow nets (length nets) place_of
