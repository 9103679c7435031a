-- What a search takes of trials.
use Rattle.std.specs.Prelude.{ℕ, ◌-◌, ◌*◌, ◌/◌, ◌^◌, ◌==◌, ◌&&◌, ◌||◌, Bool, List, [], ◌∷◌, ◌++◌, cond, fold, leb, ltb, max, min, slice_index_or, zip}
use Rattle.std.specs.List.{list_all, list_any, sum_by}
use Rattle.edge_prices.specs.Limits.{max_price}
use Rattle.hot_cuts.specs.declared.estimate.Estimate.{Estimate}
use Rattle.hot_cuts.specs.declared.offers.Offer.{Offer}
use Rattle.hot_cuts.specs.declared.rules.Goal.{Goal}
use Rattle.hot_cuts.specs.declared.rules.Goal.TheVariants.{Bound, Overflow}
use Rattle.hot_cuts.specs.Estimates.{in_two_words, is_greater_bound, level_of, proved_excess}
use Rattle.hot_cuts.specs.Offers.{with_mark_of}
use Rattle.tile_graphs.specs.declared.part.Part.{Part}
use Rattle.tile_graphs.specs.declared.tile_use.TileTotal.{TileTotal}
use Rattle.tile_graphs.specs.Links.{open_excess_of}
use Rattle.tile_graphs.specs.Fullness.{excess_of, in_word, is_above, just_full, no_total}

-- the offer of the greater bound, and the one before where none is greater
abbrev pub greater_offer : Offer → Offer → Offer
greater_offer before found = cond (is_greater_bound found.estimate before.estimate) found before

-- with an offer that proves overflow
abbrev pub with_offer : List Offer → Offer → List Offer
with_offer offers found = cond (ltb 0 (proved_excess found.estimate)) (offers ++ found ∷ []) offers

-- by how much routes overfill the tile edges that an offer prices
abbrev pub excess_at : List TileTotal → Offer → ℕ
excess_at totals offer = in_word (sum_by (λ priced. excess_of (slice_index_or totals priced.tile_edge no_total)) offer.prices.items)

-- the offer proves all by which routes overfill the tile edges that it prices
abbrev pub proves_all : List TileTotal → Offer → Bool
proves_all totals offer =
    ltb 0 (proved_excess offer.estimate) && leb (in_two_words (excess_at totals offer * max_price)) (proved_excess offer.estimate)

-- the tile edges of such an offer are settled
abbrev pub with_settled : List TileTotal → List Bool → Offer → List Bool
with_settled totals are_settled offer = cond (proves_all totals offer) (fold with_mark_of are_settled offer.prices.items) are_settled

-- the level that prices are to prove more than
abbrev pub level_for : Goal → Estimate → Estimate → ℕ
level_for Bound best found = max (level_of best) (level_of found)
level_for Overflow best found = just_full

-- by how much routes overfill a tile edge that is not settled
abbrev pub excess_unless_settled : TileTotal × Bool → ℕ
excess_unless_settled pair = cond pair.1 0 (excess_of pair.0)

-- by how much routes overfill the tile edges that are not settled
abbrev pub open_excess_of_all : List TileTotal → List Bool → ℕ
open_excess_of_all totals are_settled = in_word (sum_by excess_unless_settled (zip totals are_settled))

-- a part of a number, as great as another one is of all
abbrev pub part_of_number : ℕ → ℕ → ℕ → ℕ
part_of_number number part all = cond (all == 0) 0 (in_word (number * part / all))

-- routes fill a link of the part more than at a level, or none at all
abbrev pub may_prove_more : ℕ → Part → Bool
may_prove_more level part = list_any (λ link. is_above level link.total) part.links.items || list_all (λ link. link.total.load == 0) part.links.items

-- by how much routes overfill the tile edges of a part that are not settled
abbrev pub open_excess_of_part : List TileTotal → List Bool → Part → ℕ
open_excess_of_part totals are_settled part = in_word (sum_by (open_excess_of totals are_settled) part.edges.items)

-- how many of so many looks rounds on a part may take, of which the tile edges overfill by so much of all
abbrev pub looks_for : Goal → Bool → ℕ → ℕ → ℕ → ℕ
looks_for Bound more half open_excess all = cond more half 0
looks_for Overflow more half open_excess all = part_of_number half open_excess all

-- how many rounds these looks are enough for, where one takes so many
abbrev pub rounds_for : ℕ → ℕ → ℕ
rounds_for most looks = cond (looks == 0) 0 (min (most / looks) (2 ^ 32 - 1))
