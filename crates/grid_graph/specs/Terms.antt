-- The terminals of a net, from the vertices of its pins.
use Rattle.std.specs.Prelude.{ℕ, ◌==◌, not, List, [], ◌∷◌, filter, map}
use Rattle.grid_base.specs.declared.vertex.Vertex.{Vertex}

-- the numbers of vertices
abbrev pub numbers : List Vertex → List ℕ
numbers vertices = map (λ v. v.0) vertices

-- the vertices without repeats, in the order in which they come first
abbrev pub without_repeats : List ℕ → List ℕ
without_repeats [] = []
without_repeats (v ∷ vs) = v ∷ filter (λ w. not (w == v)) (without_repeats vs)
