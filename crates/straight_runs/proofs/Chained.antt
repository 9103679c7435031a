-- Walks along runs, and through groups of them.
use Rattle.std.proofs.Common.{◌≡◌, ℕ, ◌+◌, ◌*◌, ◌<◌, ◌≤◌, All, List, Contains, length, get_or, slice_index, refl, sym, ◌∙◌, subst, inl, ⊎_elim, arith}
use Rattle.std.proofs.lemmas.List.{get_or_default}
use Rattle.grid_base.specs.declared.piece.Piece.{Piece}
use Rattle.grid_base.specs.declared.size.Size.{Size}
use Rattle.grid_base.specs.Numbers.{IsVertex}
use Rattle.grid_base.specs.Walks.{InPieces, WalkBetween}
use Rattle.grid_base.proofs.Runs.{WalkBetween-run}
use Rattle.grid_base.proofs.Walks.{WalkBetween-piece, WalkBetween-refl, WalkBetween-sym, WalkBetween-trans}
use Rattle.groups.specs.Joined.{AreJoined, IsParent, IsParentOr}
use Rattle.groups.proofs.Parents.{joined-all}
use Rattle.straight_runs.specs.declared.run.Run.{Run}
use Rattle.straight_runs.specs.Lines.{rise}
use Rattle.straight_runs.specs.Runs.{IsStraightRun, pieces_of, run_piece}
use Rattle.straight_runs.specs.Touching.{HasVertex, first_of, no_run}
use Rattle.straight_runs.proofs.Lines.{end_of-towards, run_begins, start_of-towards}
use Rattle.straight_runs.proofs.Merges.{in_some_run}

-- a walk leads from the begin of a run to each of its vertices
pub walk_along : (s : Size) (runs : List Run) (run : Run) (v : ℕ) → Contains runs run → IsStraightRun s run → HasVertex s run v → WalkBetween s (InPieces (pieces_of s runs)) run.first.0 v
walk_along s runs run v held is (i, within, at_v) =
    let F = InPieces (pieces_of s runs) in
    let d = run.direction in
    let at : ℕ → ℕ = λ k. run.first.0 + k * rise d s in
    let begin : at 0 ≡ run.first.0 = omega arith in
    let vertex : IsVertex s (at 0) = subst (IsVertex s) (sym begin) (run_begins s run is) in
    let steps : (k : ℕ) → 0 ≤ k → k < i → WalkBetween s F (at k) (at (k + 1)) =
    λ k from below.
    let room : k < run.count = omega (arith, below, within) in
    let next : at k + rise d s ≡ at (k + 1) = omega arith in
    WalkBetween-piece s F (run_piece s run k) (at k) (at (k + 1))
    (in_some_run s runs (run_piece s run k) run held (k, room, refl))
    (inl (is.each k room, start_of-towards d (at k), end_of-towards s d (at k) ∙ next)) in
    subst (λ w. WalkBetween s F run.first.0 w) (sym at_v)
    (subst (λ u. WalkBetween s F u (at i)) begin (WalkBetween-run s F at 0 i (omega arith) vertex steps))

-- the run of a number
pub run_held : (runs : List Run) (i : ℕ) → i < length runs → Contains runs (get_or runs i no_run)
run_held runs i within = (i, within, get_or_default runs i (get_or runs i no_run) no_run within)

pub walk_to : (s : Size) (runs : List Run) (i v : ℕ) → All (IsStraightRun s) runs → i < length runs → HasVertex s (get_or runs i no_run) v → WalkBetween s (InPieces (pieces_of s runs)) (first_of runs i) v
walk_to s runs i v all within has = walk_along s runs (get_or runs i no_run) v (run_held runs i within) (all i no_run within) has

-- two runs that have a vertex
pub walk_over : (s : Size) (runs : List Run) (i j v : ℕ) → All (IsStraightRun s) runs → i < length runs → j < length runs → HasVertex s (get_or runs i no_run) v → HasVertex s (get_or runs j no_run) v → WalkBetween s (InPieces (pieces_of s runs)) (first_of runs i) (first_of runs j)
walk_over s runs i j v all in_i in_j has_i has_j =
    let F = InPieces (pieces_of s runs) in
    WalkBetween-trans s F (first_of runs i) v (first_of runs j)
    (walk_to s runs i v all in_i has_i)
    (WalkBetween-sym s F (first_of runs j) v (walk_to s runs j v all in_j has_j))

-- each run alone
pub walk_alone : (s : Size) (runs : List Run) (i : ℕ) → All (IsStraightRun s) runs → i < length runs → WalkBetween s (InPieces (pieces_of s runs)) (first_of runs i) (first_of runs i)
walk_alone s runs i all within = WalkBetween-refl s (InPieces (pieces_of s runs)) (first_of runs i) (run_begins s (get_or runs i no_run) (all i no_run within))

-- walks lead from the vertex of each number to that of its parent
abbrev pub Chain : Size → List Piece → (ℕ → ℕ) → List ℕ → Type 0
Chain s pieces at parents = (i : ℕ) → i < length parents → WalkBetween s (InPieces pieces) (at i) (at (slice_index parents i))

module _ (s : Size) (pieces : List Piece) (at : ℕ → ℕ) where
  -- walks lead between the vertices of two numbers
  abbrev pub Between : ℕ → ℕ → Type 0
  Between i j = WalkBetween s (InPieces pieces) (at i) (at j)

  -- a walk leads between all that is joined by links that have walks
  pub walk_joined : (Link : ℕ → ℕ → Type 0) → ((i j : ℕ) → Link i j → Between i j) → (i j : ℕ) → AreJoined Link i j → Between i j
  walk_joined Link = joined-all Between Link (λ i j. WalkBetween-sym s (InPieces pieces) (at i) (at j))
      (λ i j k. WalkBetween-trans s (InPieces pieces) (at i) (at j) (at k))

  pub walk_up : (parents : List ℕ) → Chain s pieces at parents → (i j : ℕ) → IsParent parents i j → Between i j
  walk_up parents chain i j is = subst (Between i) is.1 (chain i is.0)

  pub walk_up_or : (parents : List ℕ) (one other : ℕ) → Between one other → Chain s pieces at parents → (i j : ℕ) → IsParentOr parents one other i j → Between i j
  walk_up_or parents one other walk chain i j is = ⊎_elim (walk_up parents chain i j)
      (λ (here : (i ≡ one) × (j ≡ other)). subst (λ n. Between n j) (sym here.0) (subst (Between one) (sym here.1) walk)) is
