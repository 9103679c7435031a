-- The pieces of a list with weights, each once and in rising order.
use Rattle.std.proofs.Common.{◌≡◌, ℕ, ◌≤◌, ◌↔◌, List, [], ◌∷◌, map, sym, subst, arith}
use Rattle.std.specs.List.{Contains}
use Rattle.std.proofs.lemmas.List.Sums.{sum_by-cons}
use Rattle.grid_base.specs.declared.piece.Piece.{Piece}
use Rattle.grid_base.specs.declared.size.Size.{Size}
use Rattle.grid_base.specs.Lists.{HasNoRepeats}
use Rattle.grid_graph.specs.Weighed.{IsAllowed, NoPieceTwice}
use Rattle.grid_graph.proofs.Weighed.{IsWeighed, weighed-none, weighed-more, weighed, allowed_of_tree, member_of_tree, weighs_no_more}
use Rattle.tree_set.specs.Order.{IsRising}
use Rattle.tree_set.proofs.Order.{rising_once}
use Rattle.label_search.specs.Paths.{IsPath}
use Rattle.label_search.specs.Sets.{IsSetOf, weight}

-- the pieces of a path with their weights
weighed_path : (s : Size) (pieces : List (Piece × ℕ)) (a b total : ℕ) (path : List Piece) → IsPath s pieces a b total path → (set : List (Piece × ℕ)) × IsWeighed pieces path set × (weight set ≡ total)
weighed_path s pieces a b total [] (here, nothing) = ([], weighed-none pieces, sym nothing)
weighed_path s pieces a b total (p ∷ path) (next, k, left, is, rest, sum) =
    let on = weighed_path s pieces next b left path rest in
    ((p, k) ∷ on.0, weighed-more pieces on.0 path p k on.1 is.weighs, omega (arith, sum, on.2, sum_by-cons (λ (x : Piece × ℕ). x.1) (p, k) on.0))

-- the pieces of a path, each once and in rising order, are a set that weighs at most what the path does
pub record IsPathSet (pieces : List (Piece × ℕ)) (tree : List Piece) (total : ℕ) : Type 0 where
  pub set : List (Piece × ℕ)
  pub of : map (λ x. x.0) set ≡ tree
  pub is_set : IsSetOf pieces set
  pub light : weight set ≤ total
  pub holds : (p : Piece) → Contains tree p → IsAllowed set p

-- the pieces of a list with weights, each once and in rising order, are a set that weighs at most what the list does
pub listed_set : (pieces weighed : List (Piece × ℕ)) (listed tree : List Piece) → NoPieceTwice pieces → IsWeighed pieces listed weighed → IsRising tree → ((p : Piece) → Contains tree p ↔ Contains listed p) → IsPathSet pieces tree (weight weighed)
listed_set pieces along listed tree once is rising same =
    let own = weighed pieces tree (λ p at. let found = allowed_of_tree along listed is.of p ((same p).0 at) in (found.0, is.allowed (p, found.0) found.1)) in
    let apart : NoPieceTwice own.0 = subst (λ (ps : List Piece). HasNoRepeats ps) (sym own.1.of) (rising_once tree rising) in
    record {
      set = own.0;
      of = own.1.of;
      is_set = record { allowed = own.1.allowed; once = apart };
      light = weighs_no_more pieces own.0 along once apart own.1.allowed is.allowed (λ x at. allowed_of_tree along listed is.of x.0 ((same x.0).0 (member_of_tree own.0 tree x own.1.of at)));
      holds = allowed_of_tree own.0 tree own.1.of;
    }

-- and so are those of a path
pub path_set : (s : Size) (pieces : List (Piece × ℕ)) (a b total : ℕ) (path tree : List Piece) → NoPieceTwice pieces → IsPath s pieces a b total path → IsRising tree → ((p : Piece) → Contains tree p ↔ Contains path p) → IsPathSet pieces tree total
path_set s pieces a b total path tree once is rising same =
    let along = weighed_path s pieces a b total path is in
    subst (IsPathSet pieces tree) along.2 (listed_set pieces along.0 path tree once along.1 rising same)
