-- Lists of slots and of found vertices.
use Rattle.std.specs.Prelude.{ℕ, ◌≡◌, ◌<◌, ◌≤◌, List, length, get_or}
use Rattle.grid_base.specs.declared.size.Size.{Size}
use Rattle.grid_base.specs.declared.spot.Spot.{Spot}
use Rattle.grid_base.specs.Numbers.{vertices}
use Rattle.grid_base.specs.Spots.{IsSpot}
use Rattle.label_search.specs.declared.found.Slot.{Slot}

-- a slot without a meaning
abbrev pub unset : Slot
unset = record { stamp = 0; index = 0 }

-- a spot without a meaning
abbrev pub nowhere : Spot
nowhere = record { vertex = record { 0 = 0 }; place = record { col = 0; row = 0; layer = 0 } }

-- the vertex at an index
abbrev pub vertex_found : List Spot → ℕ → ℕ
vertex_found spots i = (get_or spots i nowhere).vertex.0

-- each of the first `len` spots is that of a vertex whose slot has its index and the present stamp; no other slot has
-- that stamp, and none a later one
pub record AreFound (s : Size) (slots : List Slot) (spots : List Spot) (len present : ℕ) : Type 0 where
  pub slot_count : length slots ≡ vertices s
  pub spot_count : len ≤ length spots
  pub room : len ≤ vertices s
  pub started : 0 < present
  pub standing : (i : ℕ) → i < len → IsSpot s (get_or spots i nowhere)
  pub indexed : (i : ℕ) → i < len → get_or slots (vertex_found spots i) unset ≡ record { stamp = present; index = i }
  pub back : (v : ℕ) → (get_or slots v unset).stamp ≡ present → (get_or slots v unset).index < len
  pub same : (v : ℕ) → (get_or slots v unset).stamp ≡ present → vertex_found spots (get_or slots v unset).index ≡ v
  pub stamps : (v : ℕ) → (get_or slots v unset).stamp ≤ present
