-- The pieces of runs.
use Rattle.std.specs.Prelude.{ℕ, ◌+◌, ◌*◌, ◌<◌, List, map, flat_map}
use Rattle.std.specs.List.{range_with_len}
use Rattle.grid_base.specs.declared.piece.Piece.{Piece}
use Rattle.grid_base.specs.declared.size.Size.{Size}
use Rattle.grid_base.specs.Numbers.{IsPiece}
use Rattle.straight_runs.specs.declared.run.Run.{Run}
use Rattle.straight_runs.specs.Lines.{rise, nth_piece, line_number}

-- a piece of a run, by its place from 0
abbrev pub run_piece : Size → Run → ℕ → Piece
run_piece s run i = nth_piece s run.direction run.first.0 i

-- the pieces of a run
abbrev pub run_pieces : Size → Run → List Piece
run_pieces s run = map (run_piece s run) (range_with_len 0 run.count)

-- the pieces of a list of runs
abbrev pub pieces_of : Size → List Run → List Piece
pieces_of s runs = flat_map (run_pieces s) runs

-- a run has a piece, and all that it names are pieces of the grid
pub record IsStraightRun (s : Size) (run : Run) : Type 0 where
  pub some : 0 < run.count
  pub each : (i : ℕ) → i < run.count → IsPiece s (run_piece s run i)

-- the number of a run's first piece, when all pieces are counted line by line
abbrev pub run_number : Size → Run → ℕ
run_number s run = line_number s run.direction run.first.0

-- a run beside that number
abbrev pub numbered : Size → Run → ℕ × Run
numbered s run = (run_number s run, run)

-- where its last piece ends
abbrev pub run_end : Size → Run → ℕ
run_end s run = run.first.0 + run.count * rise run.direction s
