-- All pieces of a grid, of which no list without repeats has more.
use Rattle.std.proofs.Common.{◌≡◌, ℕ, ◌+◌, ◌*◌, ◌<◌, ◌≤◌, All, List, [], ◌∷◌, ◌++◌, Contains, length, get_or, map, sum_by, take, refl, sym, subst, length-append, arith}
use Rattle.std.specs.List.{range_with_len}
use Rattle.std.proofs.lemmas.List.Elements.{Contains-append_left, Contains-append_right}
use Rattle.std.proofs.lemmas.List.Folds.{length-flat_map-take}
use Rattle.std.proofs.lemmas.List.FromFn.{length-map-range_with_len, get_or-map-range_with_len}
use Rattle.std.proofs.lemmas.List.Sums.{sum_by-cons}
use Rattle.grid_base.specs.declared.piece.Piece.{Piece}
use Rattle.grid_base.specs.declared.size.Size.{Size}
use Rattle.grid_base.specs.Lists.{HasNoRepeats}
use Rattle.grid_base.specs.Numbers.{IsPiece, vertices, to_next_col, to_next_row, to_next_layer}
use Rattle.grid_base.proofs.NoRepeats.{sum_by-within}
use Rattle.grid_base.proofs.Pieces.{by_kind, start_of-to_next_col, start_of-to_next_row}
use Rattle.straight_runs.specs.declared.run.Run.{Run}
use Rattle.straight_runs.specs.Runs.{IsStraightRun, pieces_of, run_piece, run_pieces}
use Rattle.straight_runs.specs.Touching.{no_run}
use Rattle.std.proofs.lemmas.List.Elements.{All-contains}
use Rattle.straight_runs.proofs.Merges.{of_some_run}

abbrev each_from : Size → (ℕ → Piece) → List Piece
each_from s f = map f (range_with_len 0 (vertices s))

abbrev all_pieces : Size → List Piece
all_pieces s = each_from s to_next_col ++ (each_from s to_next_row ++ each_from s to_next_layer)

from_vertex : (s : Size) (f : ℕ → Piece) (v : ℕ) → v < vertices s → Contains (each_from s f) (f v)
from_vertex s f v vertex =
    (v, omega (arith, vertex, length-map-range_with_len f 0 (vertices s)), get_or-map-range_with_len f 0 (vertices s) v v (f v) vertex (omega arith))

in_all : (s : Size) (p : Piece) → IsPiece s p → Contains (all_pieces s) p
in_all s =
    by_kind (λ p. IsPiece s p → Contains (all_pieces s) p)
    (λ v piece. Contains-append_left (each_from s to_next_col) (each_from s to_next_row ++ each_from s to_next_layer) (to_next_col v)
    (from_vertex s to_next_col v (omega (arith, piece.0, start_of-to_next_col v))))
    (λ v piece. Contains-append_right (each_from s to_next_col) (each_from s to_next_row ++ each_from s to_next_layer) (to_next_row v)
    (Contains-append_left (each_from s to_next_row) (each_from s to_next_layer) (to_next_row v) (from_vertex s to_next_row v (omega (arith, piece.0, start_of-to_next_row v)))))
    (λ v piece. Contains-append_right (each_from s to_next_col) (each_from s to_next_row ++ each_from s to_next_layer) (to_next_layer v)
    (Contains-append_right (each_from s to_next_row) (each_from s to_next_layer) (to_next_layer v) (from_vertex s to_next_layer v piece.0)))

abbrev one : Piece → ℕ
one p = 1

as_sum : (xs : List Piece) → sum_by one xs ≡ length xs
as_sum [] = refl
as_sum (x ∷ xs) = omega (arith, sum_by-cons one x xs, as_sum xs)

-- a list of pieces without repeats
pub few_pieces : (s : Size) (xs : List Piece) → HasNoRepeats xs → ((p : Piece) → Contains xs p → IsPiece s p) → length xs ≤ 3 * vertices s
few_pieces s xs once pieces =
    omega (
      arith,
      sum_by-within one xs (all_pieces s) once (λ p held. in_all s p (pieces p held)),
      as_sum xs,
      as_sum (all_pieces s),
      length-append (each_from s to_next_col) (each_from s to_next_row ++ each_from s to_next_layer),
      length-append (each_from s to_next_row) (each_from s to_next_layer),
      length-map-range_with_len to_next_col 0 (vertices s),
      length-map-range_with_len to_next_row 0 (vertices s),
      length-map-range_with_len to_next_layer 0 (vertices s),
    )

-- those of runs
pub few_in_runs : (s : Size) (runs : List Run) → All (IsStraightRun s) runs → HasNoRepeats (pieces_of s runs) → length (pieces_of s runs) ≤ 3 * vertices s
few_in_runs s runs all once =
    few_pieces s (pieces_of s runs) once
    (λ p held.
    let found = of_some_run s runs p held in
    let is : IsStraightRun s found.0 = All-contains (IsStraightRun s) runs found.0 all found.1 in
    subst (IsPiece s) (sym found.2.2) (is.each found.2.0 found.2.1))

-- and those of the runs so far with one more
pub few_so_far : (s : Size) (runs : List Run) (i : ℕ) → All (IsStraightRun s) runs → HasNoRepeats (pieces_of s runs) → i < length runs → length (pieces_of s (take i runs)) + (get_or runs i no_run).count ≤ 3 * vertices s
few_so_far s runs i all once within =
    let run = get_or runs i no_run in
    omega (arith, few_in_runs s runs all once, length-flat_map-take (run_pieces s) runs i no_run within, length-map-range_with_len (run_piece s run) 0 run.count)
