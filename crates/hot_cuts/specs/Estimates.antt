-- What prices prove. A sum ends at the greatest number of its size.
use Rattle.std.specs.Prelude.{ℕ, ◌+◌, ◌-◌, ◌*◌, ◌/◌, ◌^◌, ◌==◌, ◌&&◌, ◌||◌, Bool, List, cond, fold, ltb, min, zip}
use Rattle.tile_graphs.specs.declared.part.Link.{Link}
use Rattle.tile_graphs.specs.Fullness.{in_word, just_full}
use Rattle.hot_cuts.specs.declared.estimate.Estimate.{Estimate}

-- a number of 128 bits: the greatest one in place of each that is greater
abbrev pub in_two_words : ℕ → ℕ
in_two_words n = min n (2 ^ 128 - 1)

-- with a link of this capacity and price
abbrev pub with_capacity : Estimate → ℕ → ℕ → Estimate
with_capacity estimate capacity price = record estimate { capacity_cost = in_two_words (estimate.capacity_cost + capacity * price) }

-- with nets of this demand, each of which costs so much
abbrev pub with_demand : Estimate → ℕ → ℕ → Estimate
with_demand estimate demand cost = record estimate { cost = in_two_words (estimate.cost + demand * cost) }

-- that of two parts
abbrev pub of_both : Estimate → Estimate → Estimate
of_both one other = record {
  cost = in_two_words (one.cost + other.cost);
  capacity_cost = in_two_words (one.capacity_cost + other.capacity_cost);
}

-- what the nets cost beyond the capacities
abbrev pub proved_excess : Estimate → ℕ
proved_excess estimate = estimate.cost - estimate.capacity_cost

-- the first has a quotient of both costs, and the second none or a smaller one; the products that tell it end at the greatest number
abbrev pub is_greater_bound : Estimate → Estimate → Bool
is_greater_bound one other =
    ltb 0 one.capacity_cost
    && ((other.capacity_cost == 0) || ltb (in_two_words (other.cost * one.capacity_cost)) (in_two_words (one.cost * other.capacity_cost)))

-- nothing costs anything
abbrev pub no_estimate : Estimate
no_estimate = record { cost = 0; capacity_cost = 0 }

-- with a link at its price
abbrev pub with_link : Estimate → Link × ℕ → Estimate
with_link estimate priced = with_capacity estimate priced.0.total.capacity priced.1

-- what the capacities of links cost at these prices
abbrev pub of_capacities : List Link → List ℕ → Estimate
of_capacities links prices = fold with_link no_estimate (zip links prices)

-- the bound, in parts of `just_full`; 0 where no capacity costs anything
abbrev pub level_of : Estimate → ℕ
level_of estimate = cond (estimate.capacity_cost == 0) 0 (in_word (in_two_words (estimate.cost * just_full) / estimate.capacity_cost))
