-- Pieces whose weights are raised.
use Rattle.std.specs.Prelude.{ℕ, ◌+◌, ◌≤◌, List, map}
use Rattle.grid_base.specs.declared.piece.Piece.{Piece}
use Rattle.grid_graph.specs.Limits.{max_weight}
use Rattle.grid_graph.specs.Weighed.{Weighs}
use Rattle.edge_prices.specs.Limits.{max_price}

-- the same pieces, each weighing so much more
abbrev pub raised : List (Piece × ℕ) → ℕ → List (Piece × ℕ)
raised pieces extra = map (λ x. (x.0, x.1 + extra)) pieces

-- all stay within the limit where a price is added
abbrev pub MayBeRaised : List (Piece × ℕ) → Type 0
MayBeRaised pieces = (p : Piece) (k : ℕ) → Weighs pieces p k → k + max_price ≤ max_weight
