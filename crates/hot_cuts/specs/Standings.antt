-- Offers by what they prove of the overflow.
use Rattle.std.specs.Prelude.{ℕ, ◌≡◌, Bool, false, List, Option, Some, None, ◌++◌, [], cond, fold, map, not, replicate, slice_get, slice_index_or, true, IsPermutation}
use Rattle.std.specs.List.{enumerate_from, list_all}
use Rattle.std.specs.List.Sorted.{IsSorted}
use Rattle.std.specs.Ordering.{nat_cmp, ordering_then}
use Rattle.std.specs.declared.cmp.Ordering.{Ordering}
use Rattle.hot_cuts.specs.declared.estimate.Estimate.{Estimate}
use Rattle.hot_cuts.specs.declared.offers.Offer.{Offer}
use Rattle.hot_cuts.specs.declared.offers.Standing.{Standing}
use Rattle.hot_cuts.specs.declared.offers.TilePrice.{TilePrice}
use Rattle.hot_cuts.specs.Estimates.{no_estimate, of_both, proved_excess}
use Rattle.hot_cuts.specs.Offers.{with_mark_of}

-- an offer by its place in a list
abbrev pub standing_of : ℕ × Offer → Standing
standing_of numbered = record { excess = record { 0 = proved_excess numbered.1.estimate }; place = numbered.0 }

-- the one that proves more comes first, and of those that prove as much the one that stands before the other
abbrev pub best_first : Standing → Standing → Ordering
best_first one other = ordering_then (nat_cmp other.excess.0 one.excess.0) (nat_cmp one.place other.place)

-- the places of offers in that order
pub record AreStandings (offers : List Offer) (standings : List Standing) : Type 0 where
  pub all : IsPermutation (map standing_of (enumerate_from 0 offers)) standings
  pub sorted : IsSorted best_first standings

-- what is joined so far: which tile edges have a price, the prices, and what they prove
pub record Joined : Type 0 where
  pub marks : List Bool
  pub prices : List TilePrice
  pub estimate : Estimate

-- marks, and what an offer has
abbrev pub joined_in : List Bool → Offer → Joined
joined_in marks offer = record { marks = marks; prices = offer.prices.items; estimate = offer.estimate }

-- none of the marked tile edges has a price in the offer
abbrev pub is_apart_from : List Bool → Offer → Bool
is_apart_from marks offer = list_all (λ priced. not (slice_index_or marks priced.tile_edge true)) offer.prices.items

-- with an offer, if it is apart from what is joined
abbrev pub with_apart : Joined → Offer → Joined
with_apart joined offer =
    cond (is_apart_from joined.marks offer)
    (record {
      marks = fold with_mark_of joined.marks offer.prices.items;
      prices = joined.prices ++ offer.prices.items;
      estimate = of_both joined.estimate offer.estimate;
    })
    joined

-- with the offer at a place, if there is one
abbrev pub with_found : Joined → Option Offer → Joined
with_found joined None = joined
with_found joined (Some offer) = with_apart joined offer

abbrev pub with_standing : List Offer → Joined → Standing → Joined
with_standing offers joined standing = with_found joined (slice_get offers standing.place)

-- nothing is joined
abbrev pub none_joined : ℕ → Joined
none_joined count = record { marks = replicate count false; prices = []; estimate = no_estimate }

-- the offers that are apart from all better ones, joined
pub record AreBestApart (offers : List Offer) (count : ℕ) (made : Offer) : Type 0 where
  pub order : List Standing
  pub standings : AreStandings offers order
  pub prices : made.prices.items ≡ (fold (with_standing offers) (none_joined count) order).prices
  pub estimate : made.estimate ≡ (fold (with_standing offers) (none_joined count) order).estimate
