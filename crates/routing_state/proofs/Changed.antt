-- Sets of the nets, as one of them is exchanged for another.
use Rattle.std.proofs.Common.{◌≡◌, ℕ, zero, suc, ◌+◌, ◌≤◌, ◌<◌, Bool, false, cond, List, [], ◌∷◌, length, get_or, All, refl, sym, ◌∙◌, ap, subst, arith, ⊎_elim, ne_eqb}
use Rattle.std.specs.Prelude.{slice_set}
use Rattle.std.specs.List.{sum_by, zip}
use Rattle.std.proofs.lemmas.Bool.{cases_eq, cond_both}
use Rattle.std.proofs.lemmas.List.{get_or-set_same, get_or-set_other, length-set}
use Rattle.std.proofs.lemmas.List.Elements.{All-weaker}
use Rattle.std.proofs.lemmas.List.Folds.{list_any_none}
use Rattle.std.proofs.lemmas.List.Sums.{sum_by-le, sum_by-set}
use Rattle.std.proofs.lemmas.Option.{slice_get-get_or}
use Rattle.std.proofs.lemmas.Slice.Zip.{get_or-zip, length-zip}
use Rattle.grid_base.specs.declared.piece.Piece.{Piece}
use Rattle.grid_base.specs.declared.piece.Piece.TheVariants.{Edge, Via}
use Rattle.grid_graph.specs.declared.design.Design.{Design}
use Rattle.grid_graph.specs.declared.grid.Grid.{Grid}
use Rattle.grid_graph.specs.declared.ground.Ground.TheVariants.{WithChoked}
use Rattle.grid_graph.specs.declared.kind.Kind.TheVariants.{Wall}
use Rattle.grid_graph.specs.declared.net_spec.NetSpec.{NetSpec}
use Rattle.grid_graph.specs.Grids.{Allows, demand_on, edge_numbers, kind}
use Rattle.grid_graph.specs.Limits.{max_demand}
use Rattle.edge_prices.proofs.Layers.{layer-below}
use Rattle.tree_set.specs.Limits.{max_routing_load}
use Rattle.tree_set.specs.Loads.{holds, is_edge_of, load, net_load}
use Rattle.tree_set.specs.Measures.{wirelength}
use Rattle.routing_state.specs.NetSets.{AreNetSets}

-- what holds of each element still does with another one at a place
pub All-set : {X : Type 0} (P : X → Type 0) (xs : List X) (k : ℕ) (y : X) → All P xs → P y → All P (slice_set xs k y)
All-set P xs k y all new = λ i d below.
    ⊎_elim
    (λ (here : k ≡ i). subst P (subst (λ (j : ℕ). y ≡ get_or (slice_set xs k y) j d) here (sym (get_or-set_same xs k y d (omega (arith, below, here, length-set xs k y))))) new)
    (λ (other : k ≡ i → ⊥). subst P (sym (get_or-set_other xs k i y d (λ same. other (sym same)))) (all i d (omega (arith, below, length-set xs k y))))
    (cases_eq k i)

-- the pairs of two lists, with another element at a place of the second
pair_set : {A B : Type 0} (xs : List A) (ys : List B) (k : ℕ) (y : B) (c : A) → k < length xs → k < length ys → zip xs (slice_set ys k y) ≡ slice_set (zip xs ys) k (get_or xs k c, y)
pair_set [] ys k y c in_xs in_ys = absurd (omega (arith, in_xs))
pair_set (a ∷ xs) [] k y c in_xs in_ys = absurd (omega (arith, in_ys))
pair_set (a ∷ xs) (b ∷ ys) zero y c in_xs in_ys = refl
pair_set (a ∷ xs) (b ∷ ys) (suc k) y c in_xs in_ys = ap (λ ps. (a, b) ∷ ps) (pair_set xs ys k y c (omega (arith, in_xs)) (omega (arith, in_ys)))

-- the load, with the set of one net exchanged
pub load-set : (g : Grid) (nets : List NetSpec) (trees : List (List Piece)) (k : ℕ) (n : NetSpec) (old new : List Piece) (e : ℕ) → k < length nets → k < length trees
    → get_or nets k n ≡ n → get_or trees k old ≡ old → load g nets (slice_set trees k new) e + net_load g n.width old e ≡ load g nets trees e + net_load g n.width new e
load-set g nets trees k n old new e in_nets in_trees at stands =
    let f : NetSpec × List Piece → ℕ = λ x. net_load g x.0.width x.1 e in
    let here : get_or (zip nets trees) k (n, old) ≡ (n, old) =
    get_or-zip nets trees k (n, old) in_nets in_trees ∙ ap (λ (m : NetSpec). (m, get_or trees k old)) at ∙ ap (λ (t : List Piece). (n, t)) stands in
    ap (λ (ps : List (NetSpec × List Piece)). sum_by f ps + net_load g n.width old e) (pair_set nets trees k new n in_nets in_trees)
    ∙ ap (λ (m : NetSpec). sum_by f (slice_set (zip nets trees) k (m, new)) + net_load g n.width old e) at
    ∙ ap (λ (p : NetSpec × List Piece). sum_by f (slice_set (zip nets trees) k (n, new)) + f p) (sym here)
    ∙ sum_by-set f (zip nets trees) k (n, new) (n, old) (omega (arith, length-zip nets trees, in_nets, in_trees))

-- without the net, and with another set for it
pub load-without : (g : Grid) (nets : List NetSpec) (trees : List (List Piece)) (k : ℕ) (n : NetSpec) (old : List Piece) (e : ℕ) → k < length nets → k < length trees
    → get_or nets k n ≡ n → get_or trees k old ≡ old → load g nets trees e ≡ load g nets (slice_set trees k []) e + net_load g n.width old e
load-without g nets trees k n old e in_nets in_trees at stands = omega (arith, load-set g nets trees k n old [] e in_nets in_trees at stands)

pub load-with : (g : Grid) (nets : List NetSpec) (trees : List (List Piece)) (k : ℕ) (n : NetSpec) (old new : List Piece) (e : ℕ) → k < length nets → k < length trees
    → get_or nets k n ≡ n → get_or trees k old ≡ old → load g nets (slice_set trees k new) e ≡ load g nets (slice_set trees k []) e + net_load g n.width new e
load-with g nets trees k n old new e in_nets in_trees at stands =
    omega (arith, load-set g nets trees k n old new e in_nets in_trees at stands, load-without g nets trees k n old e in_nets in_trees at stands)

-- and the number of pieces
pub wirelength-set : (trees : List (List Piece)) (k : ℕ) (d new : List Piece) → k < length trees
    → wirelength (slice_set trees k new) + length (get_or trees k d) ≡ wirelength trees + length new
wirelength-set trees k d new within = sum_by-set length trees k new d within

-- no sets have a greater load on an edge than this
pub load-limit : (d : Design) (trees : List (List Piece)) (e : ℕ) → e < edge_numbers d.grid → load d.grid d.nets trees e ≤ max_routing_load
load-limit d trees e number =
    let f : NetSpec × List Piece → ℕ = λ x. net_load d.grid x.0.width x.1 e in
    let each : All (λ x. f x ≤ max_demand) (zip d.nets trees) = λ k x below.
    let in_nets : k < length d.nets = omega (arith, below, length-zip d.nets trees) in
    let n : NetSpec = get_or d.nets k x.0 in
    subst (λ y. f y ≤ max_demand) (sym (get_or-zip d.nets trees k x in_nets (omega (arith, below, length-zip d.nets trees))))
    (cond_both (holds (get_or trees k x.1) e) (demand_on d.grid n.width e) 0 (λ y. y ≤ max_demand)
    (λ held. omega (
      arith,
      (d.limits.net k n (slice_get-get_or d.nets k x.0 in_nets)).width _ (layer-below d.grid e number),
      d.grid.limits.greatest_demand _ (layer-below d.grid e number),
    )) (λ off. omega arith)) in
    omega (arith, sum_by-le f max_demand (zip d.nets trees) each, length-zip d.nets trees, d.limits.count)

-- what a ground allows is not a wall
off_wall : (g : Grid) (e : ℕ) (p : Piece) → kind g e ≡ Wall → Allows g WithChoked p → is_edge_of e p ≡ false
off_wall g e (Edge x) wall allowed = ne_eqb x.0 e (λ same. allowed (ap (kind g) same ∙ wall))
off_wall g e (Via v) wall allowed = refl

-- so sets without walls have no load on one
pub load-wall : (d : Design) (trees : List (List Piece)) (e : ℕ) → AreNetSets d trees → kind d.grid e ≡ Wall → load d.grid d.nets trees e ≡ 0
load-wall d trees e sets wall =
    let f : NetSpec × List Piece → ℕ = λ x. net_load d.grid x.0.width x.1 e in
    let each : All (λ x. f x ≤ 0) (zip d.nets trees) = λ k x below.
    let in_nets : k < length d.nets = omega (arith, below, length-zip d.nets trees) in
    let in_trees : k < length trees = omega (arith, below, length-zip d.nets trees) in
    let n : NetSpec = get_or d.nets k x.0 in
    let none : holds (get_or trees k x.1) e ≡ false =
    list_any_none (is_edge_of e) (get_or trees k x.1) (All-weaker (Allows d.grid WithChoked) (λ p. is_edge_of e p ≡ false) (λ p allowed. off_wall d.grid e p wall allowed) (get_or trees k x.1) (sets.no_walls k x.1 in_trees)) in
    omega (arith, ap f (get_or-zip d.nets trees k x in_nets in_trees), ap (λ (b : Bool). cond b (demand_on d.grid n.width e) 0) none) in
    omega (arith, sum_by-le f 0 (zip d.nets trees) each)
