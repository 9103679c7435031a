-- Indices of nets by their ids.
use Rattle.std.specs.Prelude.{ℕ, ◌≡◌, ◌<◌, List, length, map, None, Some}
use Rattle.std.specs.BTreeMap.{get}
use Rattle.std.specs.Ordering.{nat_cmp}
use Rattle.grid_base.specs.Lists.{At}
use Rattle.grid_graph.specs.declared.net_spec.NetSpec.{NetSpec}
use Rattle.eco_route.specs.declared.net_index.NetIndex.{NetIndex}

-- the ids of nets
abbrev pub ids_of : List NetSpec → List ℕ
ids_of nets = map (λ n. n.id) nets

-- each number is above those before it
abbrev pub AreRisingNumbers : List ℕ → Type 0
AreRisingNumbers numbers = (i j a b : ℕ) → i < j → At numbers i a → At numbers j b → a < b

-- each net has a number, the numbers rise, and the index tells of each id the number of its net and of no other id any
pub record IsIndexOf (ids : List ℕ) (index : NetIndex) : Type 0 where
  pub long : length index.numbers.items ≡ length ids
  pub rising : AreRisingNumbers index.numbers.items
  pub given : (i a : ℕ) → At index.numbers.items i a → a < index.next
  pub told : (i id a : ℕ) → At ids i id → At index.numbers.items i a → get nat_cmp index.by_id id ≡ Some a
  pub only : (id : ℕ) → ((i : ℕ) → ¬ At ids i id) → get nat_cmp index.by_id id ≡ None
