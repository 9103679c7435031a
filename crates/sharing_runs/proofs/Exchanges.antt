-- Lists of sets in which the set of one net is another.
use Rattle.std.proofs.Common.{◌≡◌, ℕ, zero, suc, ◌+◌, ◌<◌, Bool, true, false, cond, ◌==◌, List, [], ◌∷◌, length, get_or}
use Rattle.std.proofs.Common.{slice_set, sym, ◌∙◌, ap, subst, arith}
use Rattle.std.specs.List.{AllZip, sum_by, zip}
use Rattle.std.proofs.lemmas.List.Sums.{sum_by-set}
use Rattle.std.proofs.lemmas.Option.{same_Some, slice_get_within, get_or_from_slice_get}
use Rattle.std.proofs.lemmas.Slice.Zip.{get_or-zip, length-zip}
use Rattle.grid_base.specs.declared.piece.Piece.{Piece}
use Rattle.grid_base.specs.Lists.{At}
use Rattle.grid_graph.specs.declared.grid.Grid.{Grid}
use Rattle.grid_graph.specs.declared.net_spec.NetSpec.{NetSpec}
use Rattle.grid_graph.specs.Grids.{edge_numbers}
use Rattle.tree_set.specs.Loads.{load, load_on, net_load, tree_load}
use Rattle.tree_set.specs.Measures.{wirelength}

-- what holds place by place still holds with another element in one place of the second list
pub AllZip-set : {A B : Type 0} (R : A → B → Type 0) (xs : List A) (ys : List B) (k : ℕ) (x : A) (y : B) → AllZip R xs ys
    → At xs k x → R x y → AllZip R xs (slice_set ys k y)
AllZip-set R [] ys k x y all at holds = absurd (omega (arith, slice_get_within [] k x at))
AllZip-set R (a ∷ xs) [] k x y all at holds = absurd all
AllZip-set R (a ∷ xs) (b ∷ ys) zero x y all at holds = (subst (λ z. R z y) (sym (same_Some a x at)) holds, all.1)
AllZip-set R (a ∷ xs) (b ∷ ys) (suc k) x y all at holds = (all.0, AllZip-set R xs ys k x y all.1 at holds)

-- the pairs of two lists, with another element in one place of the second
zip-set : {A B : Type 0} (xs : List A) (ys : List B) (k : ℕ) (x : A) (y : B) → At xs k x → k < length ys
    → zip xs (slice_set ys k y) ≡ slice_set (zip xs ys) k (x, y)
zip-set [] ys k x y at within = absurd (omega (arith, slice_get_within [] k x at))
zip-set (a ∷ xs) [] k x y at within = absurd (omega (arith, within))
zip-set (a ∷ xs) (b ∷ ys) zero x y at within = ap (λ z. (z, y) ∷ zip xs ys) (same_Some a x at)
zip-set (a ∷ xs) (b ∷ ys) (suc k) x y at within = ap (λ ps. (a, b) ∷ ps) (zip-set xs ys k x y at (omega (arith, within)))

-- sums of numbers of either kind
cond-sums : (b : Bool) (p q s t u v x y : ℕ) → p + s ≡ u + x → q + t ≡ v + y → cond b p q + cond b s t ≡ cond b u v + cond b x y
cond-sums true p q s t u v x y first second = first
cond-sums false p q s t u v x y first second = second

-- with another set for a net, the load of the new set stands in place of that of the old one
pub load_on-set : (g : Grid) (nets : List NetSpec) (trees : List (List Piece)) (k : ℕ) (n : NetSpec) (old new : List Piece)
    (r : ℕ) → At nets k n → At trees k old
    → load_on g nets (slice_set trees k new) r + tree_load g n.width old r ≡ load_on g nets trees r + tree_load g n.width new r
load_on-set g nets trees k n old new r at stands =
    let f : NetSpec × List Piece → ℕ = λ x. net_load g x.0.width x.1 r in
    let in_nets : k < length nets = slice_get_within nets k n at in
    let in_trees : k < length trees = slice_get_within trees k old stands in
    let within : k < length (zip nets trees) = omega (arith, length-zip nets trees, in_nets, in_trees) in
    let here : get_or (zip nets trees) k (n, old) ≡ (n, old) =
    get_or-zip nets trees k (n, old) in_nets in_trees
    ∙ ap (λ (m : NetSpec). (m, get_or trees k old)) (get_or_from_slice_get nets k n n at)
    ∙ ap (λ (t : List Piece). (n, t)) (get_or_from_slice_get trees k old old stands) in
    let edges : load g nets (slice_set trees k new) r + net_load g n.width old r
    ≡ load g nets trees r + net_load g n.width new r =
    ap (λ ps. sum_by f ps + net_load g n.width old r) (zip-set nets trees k n new at in_trees)
    ∙ ap (λ p. sum_by f (slice_set (zip nets trees) k (n, new)) + f p) (sym here)
    ∙ sum_by-set f (zip nets trees) k (n, new) (n, old) within in
    let pieces : wirelength (slice_set trees k new) + length old ≡ wirelength trees + length new =
    ap (λ (t : List Piece). wirelength (slice_set trees k new) + length t) (sym (get_or_from_slice_get trees k old old stands))
    ∙ sum_by-set length trees k new old in_trees in
    cond-sums (r == edge_numbers g) (wirelength (slice_set trees k new)) (load g nets (slice_set trees k new) r) (length old)
    (net_load g n.width old r)
    (wirelength trees) (load g nets trees r) (length new) (net_load g n.width new r) pieces edges
