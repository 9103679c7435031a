-- Tile edges between two nodes.
use Rattle.std.specs.Prelude.{ℕ, ◌≡◌, ◌-◌, ◌^◌, ◌==◌, ◌&&◌, Bool, true, false, List, [], ◌∷◌, ◌++◌, Option, Some, None, cond, fold, length, ltb, max, slice_get, slice_index, slice_index_or, slice_set, IsPermutation}
use Rattle.std.specs.List.Sorted.{IsSorted}
use Rattle.std.specs.Ordering.{nat_cmp, ordering_then}
use Rattle.std.specs.declared.cmp.Ordering.{Ordering}
use Rattle.tile_graphs.specs.declared.part.Link.{Link}
use Rattle.tile_graphs.specs.declared.part.HotEdge.{HotEdge}
use Rattle.tile_graphs.specs.declared.tile_use.TileTotal.{TileTotal}
use Rattle.tile_graphs.specs.Fullness.{excess_of, no_total, with_more}

-- the excess of a tile edge that isn't settled
abbrev pub open_excess_of : List TileTotal → List Bool → HotEdge → ℕ
open_excess_of totals are_settled edge =
    cond (slice_index_or are_settled edge.tile_edge true) 0 (excess_of (slice_index_or totals edge.tile_edge no_total))

-- the link, if there is one, joins the nodes of a tile edge
abbrev pub is_link_of : Option Link → HotEdge → Bool
is_link_of None edge = false
is_link_of (Some link) edge = (link.one == edge.one) && (link.other == edge.other)

-- with a link of no tile edges, if the last one joins other nodes
abbrev pub with_link_for : List Link → HotEdge → List Link
with_link_for links edge =
    cond (is_link_of (slice_get links (length links - 1)) edge) links (links ++ record { one = edge.one; other = edge.other; total = no_total } ∷ [])

-- with so much more at the last link
abbrev pub with_more_at_last : List Link → TileTotal → List Link
with_more_at_last links more =
    let last = slice_index_or links (length links - 1) (record { one = 0; other = 0; total = no_total }) in
    slice_set links (length links - 1) (record last { total = with_more last.total more.load more.capacity })

-- with a tile edge, in the last link or in a new one
abbrev pub with_hot_edge : List TileTotal → List Link → HotEdge → List Link
with_hot_edge totals links edge = with_more_at_last (with_link_for links edge) (slice_index_or totals edge.tile_edge no_total)

-- the number of the last link, of 32 bits
abbrev pub last_number : List Link → ℕ
last_number links = let last = length links - 1 in cond (ltb last (2 ^ 32)) last 0

-- tile edges that are added to links one after the other, each with the number of its link
abbrev pub with_numbers : List TileTotal → List Link → List HotEdge → List HotEdge
with_numbers totals links [] = []
with_numbers totals links (edge ∷ rest) =
    record edge { link = last_number (with_hot_edge totals links edge) } ∷ with_numbers totals (with_hot_edge totals links edge) rest

-- tile edges between the same nodes stand together
abbrev pub by_nodes : HotEdge → HotEdge → Ordering
by_nodes one other =
    ordering_then (nat_cmp one.one other.one)
    (ordering_then (nat_cmp one.other other.other) (ordering_then (nat_cmp one.tile_edge other.tile_edge) (nat_cmp one.link other.link)))

-- the links of tile edges, of which those between the same nodes make one, and the tile edges with the numbers of their links
pub record AreLinksOf (totals : List TileTotal) (before : List Link) (edges : List HotEdge) (links : List Link) (numbered : List HotEdge) : Type 0 where
  pub sorted : List HotEdge
  pub same : IsPermutation edges sorted
  pub rising : IsSorted by_nodes sorted
  pub made : links ≡ fold (with_hot_edge totals) before sorted
  pub numbers : numbered ≡ with_numbers totals before sorted

-- with the price of a tile edge, where it is the greatest so far of its link's
abbrev pub with_link_price : List ℕ → List ℕ → HotEdge → List ℕ
with_link_price tile_prices prices edge = slice_set prices edge.link (max (slice_index prices edge.link) (slice_index tile_prices edge.tile_edge))
