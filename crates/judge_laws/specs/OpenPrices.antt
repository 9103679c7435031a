-- The prices of the open edges in a price list, in rising order of the edges' numbers; and a certificate with other prices.
use Rattle.std.specs.Prelude.{ℕ, List, map, slice_index, Option}
use Rattle.std.specs.List.{filter, range_with_len}
use Rattle.cert_text.specs.declared.cert.Cert.{Cert}
use Rattle.edge_prices.specs.declared.budget.Budget.{Budget}
use Rattle.edge_prices.specs.Weights.{is_open}
use Rattle.grid_graph.specs.declared.grid.Grid.{Grid}
use Rattle.grid_graph.specs.Grids.{edge_numbers}
use Rattle.fractions.specs.declared.fraction.Fraction.{Fraction}

-- the open edges, in rising order
abbrev pub open_edges : Grid → List ℕ
open_edges g = filter (is_open g) (range_with_len 0 (edge_numbers g))

-- their prices
abbrev pub open_prices : Grid → List ℕ → List ℕ
open_prices g prices = map (slice_index prices) (open_edges g)

-- the certificate with these prices of edges, this budget with the price of the wirelength, and this bound
abbrev pub with_prices : Grid → Cert → Option Budget → List ℕ → Option Fraction → Cert
with_prices g cert budget prices bound = record cert { bound = bound; budget = budget; prices = open_prices g prices }
