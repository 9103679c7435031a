-- A search that has taken out all below a number, and what it knows.
use Rattle.std.specs.Prelude.{ℕ, ◌≡◌, ◌+◌, ◌-◌, ◌<◌, ◌≤◌, List, min, max}
use Rattle.grid_base.specs.declared.piece.Piece.{Piece}
use Rattle.grid_base.specs.declared.size.Size.{Size}
use Rattle.grid_base.specs.declared.vertex.Vertex.{Vertex}
use Rattle.grid_base.specs.Lists.{At}
use Rattle.grid_base.specs.Numbers.{IsVertex, Connects}
use Rattle.grid_graph.specs.Weighed.{Weighs}
use Rattle.label_search.specs.Stamped.{far}
use Rattle.steiner_tables.specs.Masks.{single, all_of, AreParts}
use Rattle.steiner_tables.specs.Tables.{IsFamily, HasTree, rest_of}

-- numbers of the masks up to the last one, where each that is below `least` together with what is left to go was relaxed and merged
pub record IsClosed (s : Size) (pieces : List (Piece × ℕ)) (terminals : List Vertex) (last : ℕ) (low : ℕ → ℕ → ℕ) (least : ℕ)
    (num : ℕ → ℕ → ℕ) : Type 0 where
  pub family : IsFamily s pieces terminals low
  pub below : last < all_of terminals
  pub small : least ≤ far
  pub above : (mask v : ℕ) → num mask v ≤ far
  pub trees : (mask v : ℕ) → 0 < mask → mask ≤ last → IsVertex s v → num mask v < far
      → HasTree s pieces terminals mask v (num mask v)
  pub own : (place : ℕ) (v : Vertex) → At terminals place v → single place ≤ last → num (single place) v.0 ≡ 0
  pub relaxed : (mask : ℕ) (p : Piece) (k v u : ℕ) → 0 < mask → mask ≤ last → IsVertex s v
      → num mask v + rest_of terminals low mask v < least → Weighs pieces p k → Connects s p v u → num mask u ≤ num mask v + k
  pub merged : (one other mask v : ℕ) → AreParts one other mask → mask ≤ last → IsVertex s v
      → num one v + rest_of terminals low one v < least → num other v + rest_of terminals low other v < least
      → num mask v ≤ num one v + num other v

-- what such numbers know: the number, or what the family and `least` leave of it where that is smaller
abbrev pub known_of : List Vertex → (ℕ → ℕ → ℕ) → ℕ → (ℕ → ℕ → ℕ) → ℕ → ℕ → ℕ
known_of terminals low least num mask v = min (num mask v) (max (low mask v) (least - rest_of terminals low mask v))
