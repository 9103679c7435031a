-- The fullest of some edges.
use Rattle.std.specs.Prelude.{ℕ, ◌≡◌, ◌≢◌, ◌*◌, ◌≤◌, ◌<◌, Option, Some, None}
use Rattle.grid_base.specs.declared.edge.Edge.{Edge}
use Rattle.grid_graph.specs.declared.grid.Grid.{Grid}
use Rattle.grid_graph.specs.declared.kind.Kind.TheVariants.{Open}
use Rattle.grid_graph.specs.Grids.{kind, capacity, IsEdgeNumber}

-- an open edge whose load/capacity no open edge with a number below n exceeds
pub record IsFullest (g : Grid) (load : ℕ → ℕ) (n : ℕ) (edge : ℕ) : Type 0 where
  pub number : IsEdgeNumber g edge
  pub is_open : kind g edge ≡ Open
  pub most : (e : ℕ) → e < n → kind g e ≡ Open → load e * capacity g edge ≤ load edge * capacity g e

-- the fullest of the open edges with a number below n, and none where there is none
abbrev pub IsFullestBelow : Grid → (ℕ → ℕ) → ℕ → Option Edge → Type 0
IsFullestBelow g load n None = (e : ℕ) → e < n → kind g e ≢ Open
IsFullestBelow g load n (Some edge) = IsFullest g load n edge.0
