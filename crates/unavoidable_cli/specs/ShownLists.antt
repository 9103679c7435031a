-- Price lists with what they show.
use Rattle.std.specs.Prelude.{ℕ, ◌≡◌, ◌≤◌, List, Option, IfSome}
use Rattle.dual_bound.specs.Bounds.{BoundsDesign}
use Rattle.dual_bound.specs.DesignBounds.{IsBoundOrNone}
use Rattle.dual_bound.specs.LeastOverflow.{ShowsOverflow}
use Rattle.dual_bound.specs.Prices.{free_budget}
use Rattle.edge_prices.specs.Weights.{AreEdgePrices}
use Rattle.grid_graph.specs.declared.design.Design.{Design}
use Rattle.unavoidable_cli.specs.declared.finding.Finding.{Finding}
use Rattle.unavoidable_cli.specs.declared.shown_list.ShownList.{ShownList}
use Rattle.unavoidable_cli.specs.declared.shown_overflow.ShownOverflow.{ShownOverflow}
use Rattle.unavoidable_cli.specs.Findings.{IsAbove, IsUnavoidable, ShowsLeast, ShowsNoMoreByBounds}

-- a price list of the design, with the bound of the design at these prices, whatever wirelength is to be kept at no price, and
-- the overflow that they show of every routing
pub record IsShownList (d : Design) (list : ShownList) : Type 0 where
  pub are_prices : AreEdgePrices d.grid list.prices.now
  pub bound : (most : Option ℕ) → IsBoundOrNone d list.prices.now (free_budget most) list.shown.bound
  pub bounds : IfSome list.shown.bound (λ f. (most : Option ℕ) → BoundsDesign d most f.num f.den)
  pub overflow : ShowsOverflow d list.prices.now list.shown.overflow
  pub unavoidable : IsUnavoidable d list.shown.overflow

-- a price list of the design with the overflow that it shows of every routing
pub record IsShownOverflow (d : Design) (list : ShownOverflow) : Type 0 where
  pub are_prices : AreEdgePrices d.grid list.prices.now
  pub shows : ShowsLeast d list.prices.now list.overflow
  pub no_more : ShowsNoMoreByBounds d list.prices.now list.overflow
  pub unavoidable : IsUnavoidable d list.overflow

-- what is found is no less than what the price list shows: neither the bound of the new certificate nor the overflow
pub record ShowsNoLess (prices : List ℕ) (f : Finding) : Type 0 where
  pub list : ShownList
  pub of_prices : list.prices.now ≡ prices
  pub shown : IsShownList f.design list
  pub bound : ¬ IsAbove list.shown.bound f.new.bound
  pub overflow : list.shown.overflow ≤ f.overflow
