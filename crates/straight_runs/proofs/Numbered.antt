-- Runs beside their numbers, sorted by these.
use Rattle.std.proofs.Common.{◌≡◌, ℕ, ◌≤◌, ◌<◌, All, List, [], ◌∷◌, get_or, length, map, refl, sym, ◌∙◌, ap, subst, arith}
use Rattle.std.specs.List.Sorted.{IsNonDecreasingBy, IsPermutation}
use Rattle.std.proofs.lemmas.List.{get_or-map, length-map}
use Rattle.std.proofs.lemmas.List.Elements.{All-map}
use Rattle.std.proofs.lemmas.List.Sorted.{All-permutation, IsPermutation-map}
use Rattle.grid_base.specs.declared.size.Size.{Size}
use Rattle.straight_runs.specs.declared.run.Run.{Run}
use Rattle.straight_runs.specs.Runs.{numbered, run_number}

abbrev pub run_of : ℕ × Run → Run
run_of pair = pair.1

runs_of_numbered : (s : Size) (runs : List Run) → map run_of (map (numbered s) runs) ≡ runs
runs_of_numbered s [] = refl
runs_of_numbered s (run ∷ runs) = ap (λ rest. run ∷ rest) (runs_of_numbered s runs)

-- the runs of pairs in another order are the runs in another order
pub runs_moved : (s : Size) (runs : List Run) (pairs : List (ℕ × Run)) → IsPermutation (map (numbered s) runs) pairs → IsPermutation runs (map run_of pairs)
runs_moved s runs pairs moves =
    subst (λ rs. IsPermutation rs (map run_of pairs)) (runs_of_numbered s runs) (IsPermutation-map run_of (map (numbered s) runs) pairs moves)

-- each pair has the number of its run, in any order
pub numbers_stay : (s : Size) (runs : List Run) (pairs : List (ℕ × Run)) → IsPermutation (map (numbered s) runs) pairs → All (λ pair. pair.0 ≡ run_number s pair.1) pairs
numbers_stay s runs pairs moves =
    All-permutation (λ pair. pair.0 ≡ run_number s pair.1) (map (numbered s) runs) pairs moves
    (All-map (λ pair. pair.0 ≡ run_number s pair.1) (numbered s) runs (λ k d within. refl))

-- so runs whose pairs are sorted by number are sorted
pub runs_sorted : (s : Size) (pairs : List (ℕ × Run)) → All (λ pair. pair.0 ≡ run_number s pair.1) pairs → IsNonDecreasingBy (λ pair. pair.0) pairs → IsNonDecreasingBy (run_number s) (map run_of pairs)
runs_sorted s pairs same up i j d order within =
    let e = numbered s d in
    let below : j < length pairs = omega (arith, within, length-map pairs run_of) in
    let here : i < length pairs = omega (arith, order, below) in
    omega (
      arith,
      up i j e order below,
      same i e here,
      same j e below,
      ap (run_number s) (get_or-map run_of pairs i e d here),
      ap (run_number s) (get_or-map run_of pairs j e d below),
    )
