-- The load of all nets, and of all but one.
use Rattle.std.proofs.Common.{◌≡◌, ℕ, ◌+◌, ◌<◌, Bool, true, false, cond, ◌==◌, List, length, get_or, sym, ◌∙◌, ap, arith}
use Rattle.std.specs.List.{remove, sum_by, zip}
use Rattle.std.proofs.lemmas.List.Sums.{sum_by-remove}
use Rattle.std.proofs.lemmas.Option.{slice_get_within, get_or_from_slice_get}
use Rattle.std.proofs.lemmas.Slice.Zip.{get_or-zip, length-zip}
use Rattle.grid_base.specs.declared.piece.Piece.{Piece}
use Rattle.grid_base.specs.Lists.{At}
use Rattle.grid_graph.specs.declared.grid.Grid.{Grid}
use Rattle.grid_graph.specs.declared.net_spec.NetSpec.{NetSpec}
use Rattle.grid_graph.specs.Grids.{edge_numbers}
use Rattle.tree_set.specs.Loads.{load, load_on, net_load, tree_load}
use Rattle.tree_set.specs.Measures.{wirelength}
use Rattle.eco_route.proofs.Removed.{zip-removed}

cond-sum : (b : Bool) (wire wire' w load load' l : ℕ) → wire ≡ wire' + w → load ≡ load' + l → cond b wire load ≡ cond b wire' load' + cond b w l
cond-sum true wire wire' w load load' l first second = first
cond-sum false wire wire' w load load' l first second = second

-- the load of all is that of all but one and that of this one
pub load_on-without : (g : Grid) (nets : List NetSpec) (trees : List (List Piece)) (k : ℕ) (n : NetSpec) (tree : List Piece) (r : ℕ) → At nets k n → At trees k tree
    → load_on g nets trees r ≡ load_on g (remove nets k) (remove trees k) r + tree_load g n.width tree r
load_on-without g nets trees k n tree r at stands =
    let f : NetSpec × List Piece → ℕ = λ x. net_load g x.0.width x.1 r in
    let in_nets : k < length nets = slice_get_within nets k n at in
    let in_trees : k < length trees = slice_get_within trees k tree stands in
    let here : get_or (zip nets trees) k (n, tree) ≡ (n, tree) =
    get_or-zip nets trees k (n, tree) in_nets in_trees ∙ ap (λ (m : NetSpec). (m, get_or trees k tree)) (get_or_from_slice_get nets k n n at)
    ∙ ap (λ (t : List Piece). (n, t)) (get_or_from_slice_get trees k tree tree stands) in
    let wires : wirelength trees ≡ wirelength (remove trees k) + length tree =
    sym (sum_by-remove length trees k tree in_trees) ∙ ap (λ (t : List Piece). wirelength (remove trees k) + length t) (get_or_from_slice_get trees k tree tree stands) in
    let loads : load g nets trees r ≡ load g (remove nets k) (remove trees k) r + net_load g n.width tree r =
    sym (sum_by-remove f (zip nets trees) k (n, tree) (omega (arith, length-zip nets trees, in_nets, in_trees)))
    ∙ ap (λ (x : NetSpec × List Piece). sum_by f (remove (zip nets trees) k) + f x) here
    ∙ ap (λ (ps : List (NetSpec × List Piece)). sum_by f ps + net_load g n.width tree r) (sym (zip-removed nets trees k)) in
    cond-sum (r == edge_numbers g) _ _ _ _ _ _ wires loads
