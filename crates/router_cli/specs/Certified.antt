-- What a certificate says of a design and of its routes.
use Rattle.std.specs.Prelude.{ℕ, ◌≡◌, List, length, take, slice_index, Option}
use Rattle.std.specs.Option.{option_map}
use Rattle.grid_base.specs.declared.piece.Piece.{Piece}
use Rattle.grid_graph.specs.declared.design.Design.{Design}
use Rattle.grid_graph.specs.declared.grid.Grid.{Grid}
use Rattle.grid_graph.specs.declared.ground.Ground.{Ground}
use Rattle.grid_graph.specs.Grids.{edge_numbers}
use Rattle.grid_graph.specs.Grounds.{AreGrounds}
use Rattle.edge_prices.specs.declared.budget.Budget.{Budget}
use Rattle.tree_set.specs.Loads.{load}
use Rattle.tree_set.specs.Measures.{overflow, wirelength, IsPeakWith}
use Rattle.dual_bound.specs.DesignBounds.{IsBoundOrNone}
use Rattle.cert_text.specs.declared.cert.Cert.{Cert}
use Rattle.judge_laws.specs.OpenPrices.{open_prices}
use Rattle.route_judge.specs.Counts.{forced_count}

-- the budget with the wirelength's price, which stands last in a price vector
abbrev pub priced_budget : Grid → List ℕ → Option ℕ → Option Budget
priced_budget g prices budget = option_map (λ most. record { most = most; price = slice_index prices (edge_numbers g) }) budget

-- the certificate says what is measured of these sets, one per net, and the bound at these prices
pub record IsCertified (d : Design) (budget : Option ℕ) (trees : List (List Piece)) (prices : List ℕ) (c : Cert) : Type 0 where
  pub nets : c.nets ≡ length d.nets
  pub grounds : List Ground
  pub are_grounds : AreGrounds d.grid d.nets grounds
  pub forced : c.forced ≡ forced_count grounds
  pub overflow_is : c.overflow ≡ overflow d.grid (load d.grid d.nets trees)
  pub wirelength_is : c.wirelength ≡ wirelength trees
  pub peak : IsPeakWith d.grid (load d.grid d.nets trees) (wirelength trees) budget c.peak
  pub budget_is : c.budget ≡ priced_budget d.grid prices budget
  pub bound : IsBoundOrNone d (take (edge_numbers d.grid) prices) c.budget c.bound
  pub prices_are : c.prices ≡ open_prices d.grid prices
