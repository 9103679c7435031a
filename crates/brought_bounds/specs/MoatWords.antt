-- Moats as they are tested.
use Rattle.std.specs.Prelude.{ℕ, ◌≢◌, ◌+◌, ◌≤◌, List, IfSome}
use Rattle.grid_base.specs.declared.piece.Piece.{Piece}
use Rattle.grid_base.specs.declared.size.Size.{Size}
use Rattle.grid_base.specs.declared.vertex.Vertex.{Vertex}
use Rattle.grid_base.specs.Lists.{At}
use Rattle.shortest_paths.specs.declared.labels.Labels.{Labels}
use Rattle.shortest_paths.specs.LabelWords.{distance_of}
use Rattle.lower_bound.specs.Moats.{IsWithinDistance}

-- the moat of the terminal at a place doesn't overlap that of another one, which is as far away as the labels say
abbrev pub HasRoom : Labels → List Vertex → List ℕ → ℕ → ℕ → Type 0
HasRoom labels terminals radii place other =
    other ≢ place → (u : Vertex) (r q : ℕ) → At terminals other u → At radii place r → At radii other q
    → IfSome (distance_of labels u.0) (λ d. r + q ≤ d)

-- it overlaps none of the others
abbrev pub IsApart : Size → List (Piece × ℕ) → List Vertex → List ℕ → ℕ → Type 0
IsApart s pieces terminals radii place = (other : ℕ) (a b : Vertex) (r q : ℕ) → place ≢ other → At terminals place a
    → At terminals other b
    → At radii place r → At radii other q → IsWithinDistance s pieces a.0 b.0 (r + q)
