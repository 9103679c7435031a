-- Lines of pieces: what follows each other in a direction, and all pieces counted line by line.
use Rattle.std.specs.Prelude.{ℕ, ◌+◌, ◌*◌, ◌/◌, ◌%◌, Option, Some, None}
use Rattle.grid_base.specs.declared.axis.Axis.{Axis}
use Rattle.grid_base.specs.declared.axis.Axis.TheVariants.{X, Y}
use Rattle.grid_base.specs.declared.piece.Piece.{Piece}
use Rattle.grid_base.specs.declared.size.Size.{Size}
use Rattle.grid_base.specs.Numbers.{vertices, cols, rows, to_next_col, to_next_row, to_next_layer}
use Rattle.straight_runs.specs.declared.direction.Direction.{Direction}
use Rattle.straight_runs.specs.declared.direction.Direction.TheVariants.{East, North, Up}

-- by how much a piece that leads in a direction raises the number of a vertex
abbrev pub rise : Direction → Size → ℕ
rise East s = 1
rise North s = cols s
rise Up s = cols s * rows s

-- the axis of the edges that lead in a direction
abbrev pub axis_of : Direction → Option Axis
axis_of East = Some X
axis_of North = Some Y
axis_of Up = None

-- the piece that leads from a vertex in a direction
abbrev pub piece_towards : Direction → ℕ → Piece
piece_towards East v = to_next_col v
piece_towards North v = to_next_row v
piece_towards Up v = to_next_layer v

-- the pieces that follow each other in a direction from a vertex on, by their numbers from 0
abbrev pub nth_piece : Size → Direction → ℕ → ℕ → Piece
nth_piece s direction start i = piece_towards direction (start + i * rise direction s)

-- how many pieces of other directions are counted before those of a direction
abbrev pub counted_before : Size → Direction → ℕ
counted_before s East = 0
counted_before s North = vertices s
counted_before s Up = 2 * vertices s

-- the number of the piece that leads from a vertex in a direction, when all are counted line by line
abbrev pub line_number : Size → Direction → ℕ → ℕ
line_number s d v = counted_before s d + v % rise d s * (vertices s / rise d s) + v / rise d s
