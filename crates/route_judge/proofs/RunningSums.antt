-- The sums, as the set of one more block is added, and how large they can be.
use Rattle.std.proofs.Common.{◌≡◌, ℕ, zero, suc, ◌+◌, ◌*◌, ◌^◌, ◌<◌, ◌≤◌, Bool, true, false, cond, List, [], ◌∷◌, length, map, get_or, None, slice_index, slice_set, take, All, refl, sym, ◌∙◌, ap, subst, ⊎_elim, arith, ne_eqb, ◌↔◌, Contains}
use Rattle.std.specs.List.{sum_by, list_any, zip}
use Rattle.std.proofs.lemmas.Bool.{cases_lt}
use Rattle.std.proofs.lemmas.List.{get_or_past, length-map, take_all}
use Rattle.std.proofs.lemmas.List.Elements.{All-contains, All-contains_itself, All-weaker}
use Rattle.std.proofs.lemmas.List.Folds.{list_any_none}
use Rattle.std.proofs.lemmas.List.Sums.{count_by-le-length, sum_by-le, sum_by-set}
use Rattle.std.proofs.lemmas.Option.{same_Some, slice_get_within, slice_get-get_or, get_or_from_slice_get}
use Rattle.std.proofs.lemmas.Slice.Zip.{get_or-zip, length-zip}
use Rattle.straight_runs.specs.LoadSums.{AreLoadSums}
use Rattle.straight_runs.proofs.Added.{same_differences}
use Rattle.grid_base.specs.declared.piece.Piece.{Piece}
use Rattle.grid_base.specs.declared.piece.Piece.TheVariants.{Edge, Via}
use Rattle.grid_base.specs.declared.size.Size.{Size}
use Rattle.grid_base.specs.Limits.{max_vertices}
use Rattle.grid_base.specs.Lists.{At, HasNoRepeats}
use Rattle.grid_base.specs.Numbers.{IsPiece, vertices, layer_of, edge_start}
use Rattle.grid_base.proofs.Lists.{AllZip-at}
use Rattle.grid_graph.specs.declared.design.Design.{Design}
use Rattle.grid_graph.specs.declared.grid.Grid.{Grid}
use Rattle.grid_graph.specs.declared.ground.Ground.{Ground}
use Rattle.grid_graph.specs.declared.net_spec.NetSpec.{NetSpec}
use Rattle.grid_graph.specs.Grids.{IsNetWidth, demand_on, edge_numbers, size_of}
use Rattle.grid_graph.specs.Limits.{max_demand, max_nets}
use Rattle.grid_graph.proofs.Grounds.{at_place}
use Rattle.edge_prices.proofs.Layers.{layer-below}
use Rattle.route_text.specs.declared.block.Block.{Block}
use Rattle.tree_set.specs.Limits.{max_routing_load}
use Rattle.tree_set.specs.Loads.{is_edge_of, holds, load, net_load}
use Rattle.tree_set.specs.Measures.{wirelength}
use Rattle.tree_set.specs.Routings.{ArePieces}
use Rattle.tree_set.proofs.Counting.{length-pieces}
use Rattle.route_judge.specs.declared.running_measure.RunningMeasure.{RunningMeasure}
use Rattle.route_judge.specs.Measured.{beyond_count, is_beyond}
use Rattle.route_judge.specs.NetSets.{IsSetOfNet}
use Rattle.route_judge.specs.Objections.{missing_net, Finds}
use Rattle.route_judge.specs.RunningMeasures.{AreSums, AreSumsOf}
use Rattle.route_judge.specs.TestedBlocks.{IsTested, AreSetsAfter}
use Rattle.route_judge.proofs.AllSets.{no_sets, set_of_none, all_sets, all_joining}
use Rattle.route_judge.proofs.BlockTests.{one_block_more, sets_more}
use Rattle.route_judge.proofs.Risen.{risen, risen-IsRising, risen-holds, risen-length, same_any}

-- the pairs of two lists, with another element in one place of the second
zip-set : {A B : Type 0} (xs : List A) (ys : List B) (k : ℕ) (x : A) (y : B) → At xs k x → k < length ys → zip xs (slice_set ys k y) ≡ slice_set (zip xs ys) k (x, y)
zip-set [] ys k x y at within = absurd (omega (arith, slice_get_within [] k x at))
zip-set (a ∷ xs) [] k x y at within = absurd (omega (arith, within))
zip-set (a ∷ xs) (b ∷ ys) zero x y at within = ap (λ z. (z, y) ∷ zip xs ys) (same_Some a x at)
zip-set (a ∷ xs) (b ∷ ys) (suc k) x y at within = ap (λ ps. (a, b) ∷ ps) (zip-set xs ys k x y at (omega (arith, within)))

-- with a set in place of an empty one, a sum over pairs grows by what the set adds
sum_filled : {A : Type 0} (f : A × List Piece → ℕ) (xs : List A) (trees : List (List Piece)) (k : ℕ) (a : A) (tree : List Piece) → At xs k a → At trees k [] → f (a, []) ≡ 0 → sum_by f (zip xs (slice_set trees k tree)) ≡ sum_by f (zip xs trees) + f (a, tree)
sum_filled f xs trees k a tree at empty nothing =
    let in_xs : k < length xs = slice_get_within xs k a at in
    let in_trees : k < length trees = slice_get_within trees k [] empty in
    let within : k < length (zip xs trees) = omega (arith, length-zip xs trees, in_xs, in_trees) in
    let here : get_or (zip xs trees) k (a, []) ≡ (a, []) =
    get_or-zip xs trees k (a, []) in_xs in_trees
    ∙ ap (λ b. (b, get_or trees k [])) (get_or_from_slice_get xs k a a at)
    ∙ ap (λ t. (a, t)) (get_or_from_slice_get trees k [] [] empty) in
    omega (arith, ap (sum_by f) (zip-set xs trees k a tree at in_trees), sum_by-set f (zip xs trees) k (a, tree) (a, []) within, ap f here, nothing)

wirelength_filled : (trees : List (List Piece)) (k : ℕ) (tree : List Piece) → At trees k [] → wirelength (slice_set trees k tree) ≡ wirelength trees + length tree
wirelength_filled trees k tree empty =
    omega (arith, sum_by-set length trees k tree [] (slice_get_within trees k [] empty), ap (length {A = Piece}) (get_or_from_slice_get trees k [] [] empty))

-- the sums with the set of one more net, whose pieces were added in another order
pub sums_more : (d : Design) (over : List Ground) (trees : List (List Piece)) (place : ℕ) (n : NetSpec) (ground : Ground) (pieces tree : List Piece) (old new : RunningMeasure)
    → At d.nets place n → At over place ground → At trees place [] → ((p : Piece) → Contains tree p ↔ Contains pieces p) → length tree ≡ length pieces
    → AreSums d over trees old → new.loads.size ≡ old.loads.size
    → ((load : ℕ → ℕ) → AreLoadSums load old.loads → AreLoadSums (λ e. load e + net_load d.grid n.width pieces e) new.loads)
    → new.wirelength ≡ old.wirelength + length pieces → new.beyond ≡ old.beyond + cond (list_any (is_beyond d.grid ground) pieces) 1 0
    → AreSums d over (slice_set trees place tree) new
sums_more d over trees place n ground pieces tree old new at stands empty same long sums size loads wire beyond =
    let g = d.grid in
    let as_loads : (e : ℕ) → load g d.nets trees e + net_load g n.width pieces e ≡ load g d.nets (slice_set trees place tree) e = λ e.
    let f : NetSpec × List Piece → ℕ = λ x. net_load g x.0.width x.1 e in
    let by_set : net_load g n.width tree e ≡ net_load g n.width pieces e = ap (λ b. cond b (demand_on g n.width e) 0) (same_any (is_edge_of e) tree pieces same) in
    ap (λ x. load g d.nets trees e + x) (sym by_set) ∙ sym (sum_filled f d.nets trees place n tree at empty refl) in
    record {
      sized = size ∙ sums.sized;
      loaded = same_differences new.loads.size (λ e. load g d.nets trees e + net_load g n.width pieces e) (load g d.nets (slice_set trees place tree)) new.loads.differences.items as_loads
          (loads (load g d.nets trees) sums.loaded);
      long = omega (arith, wire, sums.long, long, wirelength_filled trees place tree empty);
      outside =
          let f : Ground × List Piece → ℕ = λ x. cond (list_any (is_beyond g x.0) x.1) 1 0 in
          let by_set : cond (list_any (is_beyond g ground) tree) 1 0 ≡ cond (list_any (is_beyond g ground) pieces) 1 0 = ap (λ b. cond b 1 0) (same_any (is_beyond g ground) tree pieces same) in
          beyond ∙ ap (λ x. x + cond (list_any (is_beyond g ground) pieces) 1 0) sums.outside ∙ ap (λ x. beyond_count g over trees + x) (sym by_set) ∙ sym (sum_filled f over trees place ground tree stands empty refl);
    }

-- ---- how large they are

-- a net uses no more than this of an edge
demand-limit : (g : Grid) (width e : ℕ) → IsNetWidth g width → e < edge_numbers g → demand_on g width e ≤ max_demand
demand-limit g width e wide number =
    let layer = layer_of (size_of g) (edge_start e) in
    let below = layer-below g e number in
    omega (arith, wide layer below, g.limits.greatest_demand layer below)

cond-below : (b : Bool) (n most : ℕ) → n ≤ most → cond b n 0 ≤ most
cond-below true n most below = below
cond-below false n most below = omega arith

other_edge : (s : Size) (e : ℕ) (p : Piece) → 2 * vertices s ≤ e → IsPiece s p → is_edge_of e p ≡ false
other_edge s e (Edge x) past piece = ne_eqb x.0 e (λ same. absurd (omega (arith, same, past, piece.0)))
other_edge s e (Via v) past piece = refl

-- and nothing where there is no edge of that number
net_load-past : (g : Grid) (width : ℕ) (tree : List Piece) (e : ℕ) → ArePieces (size_of g) tree → edge_numbers g ≤ e → net_load g width tree e ≡ 0
net_load-past g width tree e pieces past =
    let none : holds tree e ≡ false = list_any_none (is_edge_of e) tree (All-weaker (IsPiece (size_of g)) (λ p. is_edge_of e p ≡ false) (λ p piece. other_edge (size_of g) e p past piece) tree pieces) in
    ap (λ b. cond b (demand_on g width e) 0) none

net_load-limit : (g : Grid) (width : ℕ) (tree : List Piece) (e : ℕ) → IsNetWidth g width → ArePieces (size_of g) tree → net_load g width tree e ≤ max_demand
net_load-limit g width tree e wide pieces =
    ⊎_elim
    (λ (number : e < edge_numbers g). cond-below (holds tree e) (demand_on g width e) max_demand (demand-limit g width e wide number))
    (λ (past : edge_numbers g ≤ e). omega (arith, net_load-past g width tree e pieces past))
    (cases_lt e (edge_numbers g))

-- a net's set has pieces of the grid
pub set_pieces : (g : Grid) (blocks : List Block) (n : NetSpec) (tree : List Piece) → IsSetOfNet g blocks n tree → ArePieces (size_of g) tree
set_pieces g blocks n tree set = All-weaker (Contains tree) (IsPiece (size_of g)) (λ p held. ((set.pieces p).0 held).3.2.of_grid) tree (All-contains_itself tree)

-- what stands in the list of pairs
pair_at : {A B : Type 0} (xs : List A) (ys : List B) (k : ℕ) (x : A) (y : B) (other : A × B) → At xs k x → At ys k y → get_or (zip xs ys) k other ≡ (x, y)
pair_at xs ys k x y other at_x at_y =
    get_or-zip xs ys k other (slice_get_within xs k x at_x) (slice_get_within ys k y at_y)
    ∙ ap (λ a. (a, get_or ys k other.1)) (get_or_from_slice_get xs k x other.0 at_x)
    ∙ ap (λ b. (x, b)) (get_or_from_slice_get ys k y other.1 at_y)

-- the sums are within these limits
pub record AreSmall (sums : RunningMeasure) : Type 0 where
  pub wire_limit : sums.wirelength ≤ max_nets * (3 * max_vertices)
  pub count_limit : sums.beyond ≤ max_nets

pub load-limit : (d : Design) (trees : List (List Piece)) (e : ℕ) → ((k : ℕ) (n : NetSpec) (tree : List Piece) → At d.nets k n → At trees k tree → ArePieces (size_of d.grid) tree) → load d.grid d.nets trees e ≤ max_routing_load
load-limit d trees e pieces =
    let g = d.grid in
    let f : NetSpec × List Piece → ℕ = λ x. net_load g x.0.width x.1 e in
    let each : All (λ x. f x ≤ max_demand) (zip d.nets trees) = λ k other below.
    let in_nets : k < length d.nets = omega (arith, below, length-zip d.nets trees) in
    let in_trees : k < length trees = omega (arith, below, length-zip d.nets trees) in
    let n = at_place d.nets k in_nets in
    let tree = at_place trees k in_trees in
    subst (λ x. f x ≤ max_demand) (sym (pair_at d.nets trees k n.0 tree.0 other n.1 tree.1)) (net_load-limit g n.0.width tree.0 e (d.limits.net k n.0 n.1).width (pieces k n.0 tree.0 n.1 tree.1)) in
    omega (arith, sum_by-le f max_demand (zip d.nets trees) each, length-zip d.nets trees, d.limits.count)

load-past : (d : Design) (trees : List (List Piece)) (e : ℕ) → ((k : ℕ) (n : NetSpec) (tree : List Piece) → At d.nets k n → At trees k tree → ArePieces (size_of d.grid) tree) → edge_numbers d.grid ≤ e → load d.grid d.nets trees e ≡ 0
load-past d trees e pieces past =
    let g = d.grid in
    let f : NetSpec × List Piece → ℕ = λ x. net_load g x.0.width x.1 e in
    let each : All (λ x. f x ≤ 0) (zip d.nets trees) = λ k other below.
    let n = at_place d.nets k (omega (arith, below, length-zip d.nets trees)) in
    let tree = at_place trees k (omega (arith, below, length-zip d.nets trees)) in
    omega (arith, ap f (pair_at d.nets trees k n.0 tree.0 other n.1 tree.1), net_load-past g n.0.width tree.0 e (pieces k n.0 tree.0 n.1 tree.1) past) in
    omega (arith, sum_by-le f 0 (zip d.nets trees) each)

wire-limit : (d : Design) (earlier : List Block) (trees : List (List Piece)) → AreSetsAfter d earlier trees → wirelength trees ≤ max_nets * (3 * max_vertices)
wire-limit d earlier trees after =
    let s = size_of d.grid in
    let each : All (λ t. length t ≤ 3 * max_vertices) trees = λ k other below.
    let n = at_place d.nets k (omega (arith, below, after.long)) in
    let set = after.each k n.0 (get_or trees k other) n.1 (slice_get-get_or trees k other below) in
    omega (arith, length-pieces s (get_or trees k other) set.rising (set_pieces d.grid earlier n.0 (get_or trees k other) set), s.within.vertex_limit) in
    omega (arith, sum_by-le length (3 * max_vertices) trees each, after.long, d.limits.count)

pub small_sums : (d : Design) (over : List Ground) (earlier : List Block) (trees : List (List Piece)) (sums : RunningMeasure) → AreSetsAfter d earlier trees → AreSums d over trees sums → AreSmall sums
small_sums d over earlier trees sums after are = record {
  wire_limit = subst (λ n. n ≤ max_nets * (3 * max_vertices)) (sym are.long) (wire-limit d earlier trees after);
  count_limit = omega (arith, are.outside, count_by-le-length (λ (x : Ground × List Piece). list_any (is_beyond d.grid x.0) x.1) (zip over trees), length-zip over trees, after.long, d.limits.count);
}

-- ---- one more block

-- the pieces of a tested block are of the grid
pub tested_pieces : (d : Design) (earlier : List Block) (block : Block) (place : ℕ) (pieces : List Piece) → IsTested d earlier block place pieces → ArePieces (size_of d.grid) pieces
tested_pieces d earlier block place pieces tested = All-weaker (Contains pieces) (IsPiece (size_of d.grid)) (λ p held. ((tested.named p).0 held).2.of_grid) pieces (All-contains_itself pieces)

-- and so they are few
pub few_pieces : (s : Size) (pieces : List Piece) → HasNoRepeats pieces → ArePieces s pieces → length pieces ≤ 3 * max_vertices
few_pieces s pieces once all =
    let each : ArePieces s (risen pieces) = All-weaker (Contains (risen pieces)) (IsPiece s) (λ p held. All-contains (IsPiece s) pieces p all ((risen-holds pieces p).0 held)) (risen pieces) (All-contains_itself (risen pieces)) in
    omega (arith, risen-length pieces once, length-pieces s (risen pieces) (risen-IsRising pieces) each, s.within.vertex_limit)

-- the sums are those of some sets that the first blocks give the nets
abbrev pub AreRunning : Design → List Ground → List Block → RunningMeasure → Type 0
AreRunning d over earlier sums = (trees : List (List Piece)) × AreSetsAfter d earlier trees × AreSums d over trees sums

-- before the first block
all_empty : (nets : List NetSpec) (i : ℕ) (tree : List Piece) → At (map (λ n. []) nets) i tree → tree ≡ []
all_empty [] i tree at = absurd (omega (arith, slice_get_within [] i tree at))
all_empty (n ∷ nets) zero tree at = sym (same_Some _ _ at)
all_empty (n ∷ nets) (suc i) tree at = all_empty nets i tree at

zero_sum : {A : Type 0} (f : A × List Piece → ℕ) (xs : List A) (trees : List (List Piece)) → ((a : A) → f (a, []) ≡ 0) → ((i : ℕ) (tree : List Piece) → At trees i tree → tree ≡ []) → sum_by f (zip xs trees) ≡ 0
zero_sum f xs trees nothing empty =
    let each : All (λ x. f x ≤ 0) (zip xs trees) = λ k other below.
    let x = at_place xs k (omega (arith, below, length-zip xs trees)) in
    let tree = at_place trees k (omega (arith, below, length-zip xs trees)) in
    let is : get_or (zip xs trees) k other ≡ (x.0, []) = pair_at xs trees k x.0 tree.0 other x.1 tree.1 ∙ ap (λ t. (x.0, t)) (empty k tree.0 tree.1) in
    omega (arith, ap f is, nothing x.0) in
    omega (arith, sum_by-le f 0 (zip xs trees) each)

zero_wirelength : (trees : List (List Piece)) → ((i : ℕ) (tree : List Piece) → At trees i tree → tree ≡ []) → wirelength trees ≡ 0
zero_wirelength trees empty =
    let each : All (λ t. length t ≤ 0) trees = λ k other below. omega (arith, ap (length {A = Piece}) (empty k (get_or trees k other) (slice_get-get_or trees k other below))) in
    omega (arith, sum_by-le length 0 trees each)

pub none_running : (d : Design) (over : List Ground) (sums : RunningMeasure) → sums.loads.size ≡ size_of d.grid → AreLoadSums (λ e. 0) sums.loads → sums.wirelength ≡ 0 → sums.beyond ≡ 0 → AreRunning d over [] sums
none_running d over sums size loads wire beyond =
    let trees : List (List Piece) = map (λ n. []) d.nets in
    let empty = all_empty d.nets in (
      trees,
      no_sets d trees (length-map d.nets (λ n. [])) empty,
      record {
        sized = size;
        loaded = same_differences sums.loads.size (λ e. 0) (load d.grid d.nets trees) sums.loads.differences.items
            (λ e. sym (zero_sum (λ x. net_load d.grid x.0.width x.1 e) d.nets trees (λ n. refl) empty)) loads;
        long = wire ∙ sym (zero_wirelength trees empty);
        outside = beyond ∙ sym (zero_sum (λ x. cond (list_any (is_beyond d.grid x.0) x.1) 1 0) over trees (λ ground. refl) empty);
      },
    )

-- one more block is tested, and its pieces are added
pub running_more : (d : Design) (over : List Ground) (blocks : List Block) (k : ℕ) (block : Block) (place : ℕ) (n : NetSpec) (ground : Ground) (pieces added : List Piece) (old new : RunningMeasure)
    → At blocks k block → IsTested d (take k blocks) block place pieces → At d.nets place n → At over place ground → added ≡ pieces → AreRunning d over (take k blocks) old
    → new.loads.size ≡ old.loads.size
    → ((load : ℕ → ℕ) → AreLoadSums load old.loads → AreLoadSums (λ e. load e + net_load d.grid n.width added e) new.loads)
    → new.wirelength ≡ old.wirelength + length added → new.beyond ≡ old.beyond + cond (list_any (is_beyond d.grid ground) added) 1 0
    → AreRunning d over (take (k + 1) blocks) new
running_more d over blocks k block place n ground pieces added old new at tested at_n stands same running size loads wire beyond =
    let trees = running.0 in
    let after = running.1 in
    let tree = risen pieces in
    let found = at_place trees place (omega (arith, after.long, slice_get_within d.nets place n at_n)) in
    let empty = set_of_none d.grid (take k blocks) tested.net found.0 tested.first (after.each place tested.net found.0 tested.at found.1) in
    let more = sets_more d (take k blocks) block place pieces tree trees tested (risen-IsRising pieces) (risen-holds pieces) after in
    let holds_added : (p : Piece) → Contains tree p ↔ Contains added p = subst (λ ps. (p : Piece) → Contains tree p ↔ Contains ps p) (sym same) (risen-holds pieces) in
    let as_long : length tree ≡ length added = risen-length pieces tested.once ∙ ap (length {A = Piece}) (sym same) in (
      slice_set trees place tree,
      subst (λ earlier. AreSetsAfter d earlier (slice_set trees place tree)) (one_block_more blocks k block (slice_get_within blocks k block at) (sym (get_or_from_slice_get blocks k block block at))) more,
      sums_more d over trees place n ground added tree old new at_n stands (subst (At trees place) empty found.1) holds_added as_long running.2 size loads wire beyond,
    )

-- the sums after all blocks
pub all_sums : (d : Design) (over : List Ground) (blocks : List Block) (k : ℕ) (sums : RunningMeasure) → length blocks ≤ k → AreRunning d over (take k blocks) sums → Finds d (map (missing_net blocks) d.nets) None → AreSumsOf d over blocks sums
all_sums d over blocks k sums all running none =
    let after = subst (λ earlier. AreSetsAfter d earlier running.0) (take_all k blocks all) running.1 in
    record { trees = running.0; sets = all_sets d blocks running.0 after; joining = all_joining d blocks running.0 after none; sums_of = running.2 }

-- the loads that the sums end as
pub record AreFinished (sums : RunningMeasure) (loads : List ℕ) : Type 0 where
  pub long : length loads ≡ 2 * vertices sums.loads.size
  pub each : (load : ℕ → ℕ) → AreLoadSums load sums.loads → ((e : ℕ) → e < 2 * vertices sums.loads.size → load e < 2 ^ 64) → (e : ℕ) → e < 2 * vertices sums.loads.size → slice_index loads e ≡ load e

module _ (d : Design) (over : List Ground) (blocks : List Block) (sums : RunningMeasure) (of : AreSumsOf d over blocks sums) where
  net_pieces : (k : ℕ) (n : NetSpec) (tree : List Piece) → At d.nets k n → At of.trees k tree → ArePieces (size_of d.grid) tree
  net_pieces k n tree at_n at_tree = set_pieces d.grid blocks n tree (AllZip-at (IsSetOfNet d.grid blocks) d.nets of.trees k n tree of.sets at_n at_tree)

  pub finished_loads : (loads : List ℕ) → AreFinished sums loads → (e : ℕ) → slice_index loads e ≡ load d.grid d.nets of.trees e
  finished_loads loads are e = ⊎_elim
      (λ (within : e < 2 * vertices sums.loads.size).
      are.each (load d.grid d.nets of.trees) of.sums_of.loaded (λ n below. omega (arith, load-limit d of.trees n net_pieces)) e within)
      (λ (past : 2 * vertices sums.loads.size ≤ e).
      let beyond : edge_numbers d.grid ≤ e = subst (λ s. 2 * vertices s ≤ e) of.sums_of.sized past in
      get_or_past loads e 0 (omega (arith, are.long, past)) ∙ sym (load-past d of.trees e net_pieces beyond))
      (cases_lt e (2 * vertices sums.loads.size))

  pub finished_limit : (loads : List ℕ) → AreFinished sums loads → (e : ℕ) → slice_index loads e ≤ max_routing_load
  finished_limit loads are e = subst (λ n. n ≤ max_routing_load) (sym (finished_loads loads are e)) (load-limit d of.trees e net_pieces)
