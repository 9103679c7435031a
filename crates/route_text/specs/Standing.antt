-- How a piece stands to an edge in the order of a set.
use Rattle.std.specs.Prelude.{ℕ, ◌<◌, ◌≡◌, ⊤}
use Rattle.grid_base.specs.declared.piece.Piece.{Piece}
use Rattle.grid_base.specs.declared.piece.Piece.TheVariants.{Edge, Via}

-- an edge of a number below this one
abbrev pub IsBelow : ℕ → Piece → Type 0
IsBelow e (Edge other) = other.0 < e
IsBelow e (Via v) = ⊥

-- an edge of a number above this one, or a via
abbrev pub IsBehind : ℕ → Piece → Type 0
IsBehind e (Edge other) = e < other.0
IsBehind e (Via v) = ⊤

-- the edge of this number
abbrev pub IsNumbered : ℕ → Piece → Type 0
IsNumbered e (Edge other) = other.0 ≡ e
IsNumbered e (Via v) = ⊥
