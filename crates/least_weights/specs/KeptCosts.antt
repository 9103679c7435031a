-- Least costs that are kept.
use Rattle.std.specs.Prelude.{ℕ, List, IfSome}
use Rattle.grid_base.specs.declared.piece.Piece.{Piece}
use Rattle.grid_base.specs.declared.size.Size.{Size}
use Rattle.grid_base.specs.Lists.{At}
use Rattle.grid_base.specs.Walks.{InVertices}
use Rattle.label_search.specs.Sets.{IsLeastWeight}
use Rattle.least_weights.specs.declared.kept_costs.KeptCost.{KeptCost}

-- each cost that is kept is the least of joining its tiles
abbrev pub AreKeptCosts : Size → List (Piece × ℕ) → List KeptCost → Type 0
AreKeptCosts s pieces entries =
    (place : ℕ) (entry : KeptCost) → At entries place entry
    → IfSome entry.cost (λ cost. IsLeastWeight s pieces (InVertices entry.tiles) cost)
