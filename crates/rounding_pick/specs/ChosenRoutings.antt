-- The routing that is chosen out of those of several phases.
use Rattle.std.specs.Prelude.{ℕ, List, [], length, map, slice_index_or}
use Rattle.std.specs.List.{range_with_len}
use Rattle.grid_base.specs.declared.piece.Piece.{Piece}
use Rattle.rounding_pick.specs.Picks.{pick}

-- the set that the net at a position has in a phase
abbrev pub set_in_phase : List (List (List Piece)) → ℕ → ℕ → List Piece
set_in_phase phases phase position = slice_index_or (slice_index_or phases phase []) position []

-- the chosen routing of so many nets: each has its set of the phase that is picked for its position
abbrev pub chosen_routing : ℕ → List (List (List Piece)) → ℕ → List (List Piece)
chosen_routing seed phases nets = map (λ position. set_in_phase phases (pick seed position (length phases)) position) (range_with_len 0 nets)
