use Rattle.std.proofs.Common.{◌≡◌, ◌<◌, ℕ, List, None, get_or, slice_get, take}
use Rattle.grid_base.specs.declared.vertex.Vertex.{Vertex}
use Rattle.bound_climb.proofs.tabled.spread_of.Given as goal

-- whatever list has these answers, its front was chosen
abbrev pub invariant-loop-place : goal.invariant-loop-place
invariant-loop-place l = (spread : List Vertex) → ((i : ℕ) → i < 5 → get_or l.answers i None ≡ slice_get spread i)
    → l.chosen.items ≡ take l.place spread
