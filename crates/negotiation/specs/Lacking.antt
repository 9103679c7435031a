-- Edges with less than no room, as narrow rooms tell it.
use Rattle.std.specs.Prelude.{pos, ◌<ℤ◌, ℤ, List, slice_index_or}
use Rattle.grid_base.specs.declared.piece.Piece.{Piece}
use Rattle.grid_base.specs.declared.piece.Piece.TheVariants.{Edge, Via}

-- the piece is an edge, open or choked, on which room is lacking
abbrev pub IsLacking : List ℤ → Piece → Type 0
IsLacking rooms (Edge e) = slice_index_or rooms e.0 (pos 0) <ℤ pos 0
IsLacking rooms (Via v) = ⊥
