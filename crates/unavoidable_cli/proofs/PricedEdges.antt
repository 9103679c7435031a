-- Edges that are priced above 0.
use Rattle.std.proofs.Common.{ℕ, Bool, List}
use Rattle.std.specs.Prelude.{ltb, slice_index}
use Rattle.unavoidable_cli.specs.declared.priced_edge.PricedEdge.{PricedEdge}

-- the price of an edge is above 0
abbrev pub has_price : List ℕ → ℕ → Bool
has_price prices e = ltb 0 (slice_index prices e)

-- an edge with its price
abbrev pub with_price : List ℕ → ℕ → PricedEdge
with_price prices e = record { edge = record { 0 = e }; price = slice_index prices e }
