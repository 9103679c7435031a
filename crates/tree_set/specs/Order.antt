-- The order of pieces.
use Rattle.std.specs.Prelude.{List}
use Rattle.std.specs.Ordering.{nat_cmp}
use Rattle.std.specs.List.Sorted.{IsStrictlySortedBy}
use Rattle.std.specs.declared.cmp.Ordering.{Ordering}
use Rattle.std.specs.declared.cmp.Ordering.TheVariants.{Less, Greater}
use Rattle.grid_base.specs.declared.piece.Piece.{Piece}
use Rattle.grid_base.specs.declared.piece.Piece.TheVariants.{Edge, Via}

-- all edges come first, by number, and then all vias, by number
abbrev pub piece_cmp : Piece → Piece → Ordering
piece_cmp (Edge a) (Edge b) = nat_cmp a.0 b.0
piece_cmp (Edge a) (Via b) = Less
piece_cmp (Via a) (Edge b) = Greater
piece_cmp (Via a) (Via b) = nat_cmp a.0 b.0

-- each piece comes before those after it, so none is listed twice
abbrev pub IsRising : List Piece → Type 0
IsRising ps = IsStrictlySortedBy piece_cmp ps
