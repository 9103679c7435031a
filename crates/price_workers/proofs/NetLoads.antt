-- The load of a routing, net by net.
use Rattle.std.proofs.Common.{◌≡◌, ℕ, ◌+◌, ◌<◌, ◌≤◌, List, [], ◌∷◌, ◌++◌, length, take, slice_get, Some, sym, ◌∙◌, ap, subst}
use Rattle.std.proofs.Common.{arith}
use Rattle.price_workers.proofs.Common.{take_all, take_more, length-take, slice_get_within, get_or_from_slice_get, Piece, At}
use Rattle.price_workers.proofs.Common.{Grid, NetSpec, entries, size_of, load_on, tree_load, ArePieces, net_load-beyond}
use Rattle.sharing_runs.proofs.Between.{load_on-between, load_on-push}
use Rattle.price_workers.proofs.Taken.{tree_load-edge}

-- the load of one net more
pub load_on-next : (g : Grid) (nets : List NetSpec) (trees : List (List Piece)) (k : ℕ) (n : NetSpec) (tree : List Piece) (r : ℕ) → At nets k n → At trees k tree
    → load_on g nets (take (k + 1) trees) r ≡ load_on g nets (take k trees) r + tree_load g n.width tree r
load_on-next g nets trees k n tree r at stands =
    let within : k < length trees = slice_get_within trees k tree stands in
    let long : length (take k trees) ≡ k = omega (arith, length-take k trees, within) in
    ap (λ ts. load_on g nets ts r) (take_more trees k tree within ∙ ap (λ t. take k trees ++ t ∷ []) (get_or_from_slice_get trees k tree tree stands))
    ∙ load_on-push g nets (take k trees) n tree r (subst (λ (j : ℕ). slice_get nets j ≡ Some n) (sym long) at)

-- the first nets have no more than all
pub load_on-front : (g : Grid) (nets : List NetSpec) (trees : List (List Piece)) (k r : ℕ) → k ≤ length trees → load_on g nets (take k trees) r ≤ load_on g nets trees r
load_on-front g nets trees k r low =
    omega (
      arith,
      load_on-between g nets trees k (length trees) r low,
      ap (λ ts. load_on g nets ts r) (take_all (length trees) trees (omega arith)),
    )

-- a set has no load beyond the entries
pub tree_load-beyond : (g : Grid) (width : ℕ) (tree : List Piece) (r : ℕ) → ArePieces (size_of g) tree → entries g ≤ r → tree_load g width tree r ≡ 0
tree_load-beyond g width tree r pieces beyond =
    tree_load-edge g width tree r (λ same. omega (arith, same, beyond)) ∙ net_load-beyond g width tree r pieces (omega (arith, beyond))
