-- Overflow and wirelength of all sets, and which of two pairs of them is better.
use Rattle.std.specs.Prelude.{◌≡◌, ◌<◌, ◌≤◌, ◌⊎◌, List}
use Rattle.grid_base.specs.declared.piece.Piece.{Piece}
use Rattle.grid_graph.specs.declared.design.Design.{Design}
use Rattle.tree_set.specs.Loads.{load}
use Rattle.tree_set.specs.Measures.{overflow, wirelength}
use Rattle.routing_state.specs.declared.totals.Totals.{Totals}

-- the overflow and the wirelength of one set per net
abbrev pub totals_of : Design → List (List Piece) → Totals
totals_of d trees = record { overflow = overflow d.grid (load d.grid d.nets trees); wirelength = wirelength trees }

-- less overflow, or as much and less wirelength
abbrev pub IsBetter : Totals → Totals → Type 0
IsBetter a b = (a.overflow < b.overflow) ⊎ ((a.overflow ≡ b.overflow) × (a.wirelength < b.wirelength))

-- less overflow, or as much and no more wirelength
abbrev pub IsNoWorse : Totals → Totals → Type 0
IsNoWorse a b = (a.overflow < b.overflow) ⊎ ((a.overflow ≡ b.overflow) × (a.wirelength ≤ b.wirelength))
