-- Numbers that bound a design: no mixture of routings uses every resource less. It is min-max resource sharing, as Müller,
-- Radke and Vygen state it in "Faster min-max resource sharing in theory and practice" (2011): customers are the nets,
-- and a convex combination of their solutions is a list of routings, each of which counts alike.
use Rattle.std.specs.Prelude.{ℕ, ◌*◌, ◌<◌, ◌≤◌, List, length, Option, All}
use Rattle.std.specs.List.{sum_by}
use Rattle.grid_base.specs.declared.piece.Piece.{Piece}
use Rattle.grid_graph.specs.declared.design.Design.{Design}
use Rattle.grid_graph.specs.declared.grid.Grid.{Grid}
use Rattle.grid_graph.specs.declared.net_spec.NetSpec.{NetSpec}
use Rattle.grid_graph.specs.Grids.{entries}
use Rattle.edge_prices.specs.Vectors.{capacity_of}
use Rattle.tree_set.specs.Loads.{load_on}
use Rattle.tree_set.specs.Routings.{IsRouting}

-- a resource, by the number of its entry: an open edge with its capacity or, where there is a budget, the wirelength with the
-- budget as its capacity
pub record IsResource (g : Grid) (budget : Option ℕ) (r : ℕ) : Type 0 where
  pub entry : r < entries g
  pub has_capacity : 0 < capacity_of g budget r

-- a mixture: one or more routings
pub record IsMixture (d : Design) (routings : List (List (List Piece))) : Type 0 where
  pub some : 1 ≤ length routings
  pub each : All (IsRouting d.grid d.nets) routings

-- the load of a mixture on an entry: the sum of the loads of its routings
abbrev pub mixture_load : Grid → List NetSpec → List (List (List Piece)) → ℕ → ℕ
mixture_load g nets routings r = sum_by (λ trees. load_on g nets trees r) routings

-- a mixture uses a resource at a/b or more: its load, divided by how many routings there are, is at least a/b of the capacity
pub record IsUsedAt (d : Design) (budget : Option ℕ) (a b : ℕ) (routings : List (List (List Piece))) (r : ℕ) : Type 0 where
  pub resource : IsResource d.grid budget r
  pub used : a * length routings * capacity_of d.grid budget r ≤ b * mixture_load d.grid d.nets routings r

-- a/b bounds a design: every mixture uses some resource at a/b or more
pub record BoundsDesign (d : Design) (budget : Option ℕ) (a b : ℕ) : Type 0 where
  pub positive : 1 ≤ b
  pub every : (routings : List (List (List Piece))) → IsMixture d routings → (r : ℕ) × IsUsedAt d budget a b routings r
