-- Lists of costs between tiles.
use Rattle.std.proofs.Common.{◌≡◌, ◌≢◌, Bool, ℕ, ◌+◌, ◌*◌, ◌/◌, ◌<◌, ◌≤◌, List, [], ◌∷◌, length, map, min, ltb, slice_index, replicate, refl, sym, ap, subst, ◌∙◌, ⊎_elim, arith}
use Rattle.std.specs.List.{filter, range_with_len}
use Rattle.std.proofs.Math.Nat.{mod-lt, mod-eq_of_lt}
use Rattle.std.proofs.lemmas.Bool.{cases_eq, ltb-true, lt-ltb}
use Rattle.std.proofs.lemmas.List.{get_or-replicate, length-replicate}
use Rattle.std.proofs.lemmas.Nat.{div_below, mod-mul-add}
use Rattle.grid_base.specs.declared.axis.Axis.{Axis}
use Rattle.grid_base.specs.declared.axis.Axis.TheVariants.{X, Y}
use Rattle.grid_base.specs.declared.edge.Edge.{Edge as EdgeNumber}
use Rattle.grid_base.specs.declared.piece.Piece.{Piece}
use Rattle.grid_base.specs.declared.piece.Piece.TheVariants.{Edge, Via}
use Rattle.grid_base.specs.declared.size.Size.{Size}
use Rattle.grid_base.specs.declared.via.Via.{Via as ViaNumber}
use Rattle.grid_base.specs.Numbers.{layers, edge_axis, IsPiece}
use Rattle.grid_base.proofs.Pieces.{edge-tells}
use Rattle.grid_graph.specs.declared.floors.Floors.{Floors}
use Rattle.grid_graph.specs.Flat.{tiles, tile_edge_of, HaveSameTiles, IsFlatOf, AreLeastOver}
use Rattle.grid_graph.specs.Floors.{floor_along, AreFloors, AreTileFloors, AreWithin}
use Rattle.grid_graph.specs.Limits.{max_weight}
use Rattle.grid_graph.specs.TilePieces.{AreLeastBetweenTiles}
use Rattle.grid_graph.specs.Weighed.{Weighs, IsAllowed, NoPieceTwice, WeighsOnlyPieces, AreWithinLimit}
use Rattle.grid_graph.proofs.Members.{In, In-Contains, Contains-In, In-map, In-from_map, In-filter, In-from_filter, In-range, In-from_range, Differ, Differ-filter, Differ-map_range, Differ-HasNoRepeats}
use Rattle.grid_graph.proofs.TileSteps.{some_tiles, tile_edge-number}
use Rattle.edge_prices.specs.PieceLists.{IsWeightList}
use Rattle.shortest_paths.proofs.TileSets.{tile_pieces}
use Rattle.steiner_exact.proofs.EdgeLists.{flat_tiles}
use Rattle.lower_bound.specs.TileCosts.{no_cost, edge_on, IsLeastOn, AreLeastOnAll, costs_between, cost_over, AreTileCosts}

abbrev pub edge : ℕ → Piece
edge e = Edge (record { 0 = e })

-- ---- the list

-- a tile edge that has a cost is listed with it
pub has_cost : (costs : List ℕ) (e : ℕ) → e < length costs → slice_index costs e < no_cost → Weighs (costs_between costs) (edge e) (slice_index costs e)
has_cost costs e low small =
    let all = range_with_len 0 (length costs) in
    let test : ℕ → Bool = λ k. ltb (slice_index costs k) no_cost in
    In-Contains _ _ (In-map (λ k. (edge k, slice_index costs k)) (filter test all) e
    (In-filter test all e (In-range 0 (length costs) e (omega arith) (omega (arith, low))) (lt-ltb _ _ small)))

-- and nothing else is
pub record IsCost (costs : List ℕ) (p : Piece) (n : ℕ) : Type 0 where
  pub number : ℕ
  pub is : p ≡ edge number
  pub low : number < length costs
  pub small : slice_index costs number < no_cost
  pub value : n ≡ slice_index costs number

pub is_cost : (costs : List ℕ) (p : Piece) (n : ℕ) → Weighs (costs_between costs) p n → IsCost costs p n
is_cost costs p n member =
    let all = range_with_len 0 (length costs) in
    let test : ℕ → Bool = λ k. ltb (slice_index costs k) no_cost in
    let found = In-from_map (λ k. (edge k, slice_index costs k)) (filter test all) (p, n) (Contains-In _ _ member) in
    let kept = In-from_filter test all found.0 found.1 in
    record {
      number = found.0;
      is = sym (ap (λ (x : Piece × ℕ). x.0) found.2);
      low = omega (arith, (In-from_range 0 (length costs) found.0 kept.0).1);
      small = ltb-true _ _ kept.1;
      value = sym (ap (λ (x : Piece × ℕ). x.1) found.2);
    }

pub no_via : (costs : List ℕ) (v : ViaNumber) (n : ℕ) → Weighs (costs_between costs) (Via v) n → ⊥
no_via costs v n weighs = let is = (is_cost costs (Via v) n weighs).is in cc

-- the cost of a tile edge
pub cost_is : (costs : List ℕ) (e n : ℕ) → Weighs (costs_between costs) (edge e) n → (e < length costs) × (slice_index costs e < no_cost) × (n ≡ slice_index costs e)
cost_is costs e n weighs =
    let found = is_cost costs (edge e) n weighs in
    let same : found.number ≡ e = sym (edge-tells e found.number found.is) in
    (omega (arith, same, found.low), subst (λ k. slice_index costs k < no_cost) same found.small, subst (λ k. n ≡ slice_index costs k) same found.value)

firsts : (f : ℕ → ℕ) (es : List ℕ) → map (λ (x : Piece × ℕ). x.0) (map (λ e. (edge e, f e)) es) ≡ map edge es
firsts f [] = refl
firsts f (e ∷ es) = ap (λ qs. edge e ∷ qs) (firsts f es)

mapped : (es : List ℕ) → Differ es → Differ (map edge es)
mapped [] differ = tt
mapped (e ∷ es) differ = (
  (λ again. let found = In-from_map edge es (edge e) again in differ.0 (subst (In es) (edge-tells found.0 e found.2) found.1)),
  mapped es differ.1,
)

same_list : (es : List ℕ) → map (λ e. e) es ≡ es
same_list [] = refl
same_list (e ∷ es) = ap (λ ks. e ∷ ks) (same_list es)

once : (costs : List ℕ) → NoPieceTwice (costs_between costs)
once costs =
    let all = range_with_len 0 (length costs) in
    let test : ℕ → Bool = λ k. ltb (slice_index costs k) no_cost in
    rw (firsts (slice_index costs) (filter test all))
    (Differ-HasNoRepeats _ (mapped (filter test all) (Differ-filter test all (subst Differ (same_list all) (Differ-map_range (λ e. e) (λ j k same. same) 0 (length costs))))))

pub costs_listed : (s : Size) (costs : List ℕ) (floors : Floors) → AreTileCosts s costs floors → IsWeightList s (costs_between costs)
costs_listed s costs floors are = record {
  once = once costs;
  inside = λ p allowed. let found = is_cost costs p allowed.0 allowed.1 in subst (IsPiece s) (sym found.is) (are.inside found.number found.low found.small);
  within = λ p n weighs. let found = is_cost costs p n weighs in omega (arith, found.value, found.small);
}

pub costs_under : (s : Size) (costs : List ℕ) (floors : Floors) → AreTileCosts s costs floors → AreLeastOver s (costs_between costs) (cost_over costs)
costs_under s costs floors are = record {
  below = λ e n weighs.
      let is = cost_is costs e.0 n weighs in
      let own : tile_edge_of s e.0 ≡ e.0 = mod-eq_of_lt (omega (arith, is.0, are.long)) in
      omega (arith, ap (cost_over costs) own, is.2);
  within = λ e. omega arith;
}

pub costs_floors : (s : Size) (costs : List ℕ) (floors : Floors) → AreTileCosts s costs floors → AreFloors floors (costs_between costs)
costs_floors s costs floors are (Edge e) n weighs = let is = cost_is costs e.0 n weighs in omega (arith, are.floored e.0 is.0, is.2)
costs_floors s costs floors are (Via v) n weighs = absurd (no_via costs v n weighs)

pub floors_within : (floors : Floors) (axis : Axis) → AreWithin floors → floor_along floors axis ≤ max_weight
floors_within floors X within = within.x
floors_within floors Y within = within.y

pub costs_tile_floors : (s : Size) (costs : List ℕ) (floors : Floors) → AreTileCosts s costs floors → AreTileFloors s floors (cost_over costs)
costs_tile_floors s costs floors are e low = omega (arith, are.floored e (omega (arith, low, are.long)), floors_within floors (edge_axis e) are.within)

-- ---- the least over the layers

pub least_on_none : (s : Size) (pieces : List (Piece × ℕ)) (e : ℕ) → IsLeastOn s pieces e 0 no_cost
least_on_none s pieces e = record {
  below = λ layer weight low weighs. absurd (omega (arith, low));
  attained = λ less. absurd (omega (arith, less));
  within = omega arith;
}

pub least_on_past : (s : Size) (pieces : List (Piece × ℕ)) (e n least : ℕ) → IsLeastOn s pieces e n least → ¬ IsAllowed pieces (edge_on s e n) → IsLeastOn s pieces e (n + 1) least
least_on_past s pieces e n least is none = record {
  below = λ layer weight low weighs. ⊎_elim
      (λ here. absurd (none (weight, subst (λ k. Weighs pieces (edge_on s e k) weight) here weighs)))
      (λ other. is.below layer weight (omega (arith, low, other)) weighs)
      (cases_eq layer n);
  attained = λ less. let at = is.attained less in (at.0, omega (arith, at.1), at.2);
  within = is.within;
}

pub least_on_more : (s : Size) (pieces : List (Piece × ℕ)) (e n least paid new : ℕ) → IsLeastOn s pieces e n least → IsAllowed pieces (edge_on s e n) → ((weight : ℕ) → Weighs pieces (edge_on s e n) weight → paid ≡ weight) → new ≡ min least paid → IsLeastOn s pieces e (n + 1) new
least_on_more s pieces e n least paid new is allowed weighing step = record {
  below = λ layer weight low weighs. ⊎_elim
      (λ here. let same = weighing weight (subst (λ k. Weighs pieces (edge_on s e k) weight) here weighs) in omega (arith, step, same))
      (λ other. omega (arith, step, is.below layer weight (omega (arith, low, other)) weighs))
      (cases_eq layer n);
  attained = λ less. ⊎_elim
      (λ old. let at = is.attained (omega (arith, old, step, less)) in (at.0, omega (arith, at.1), subst (λ k. Weighs pieces (edge_on s e at.0) k) (sym old) at.2))
      (λ other. (n, omega arith, subst (λ k. Weighs pieces (edge_on s e n) k) (sym (weighing allowed.0 allowed.1) ∙ sym (paid_is other)) allowed.1))
      (cases_eq new least);
  within = omega (arith, step, is.within);
}
  where
    paid_is : new ≢ least → new ≡ paid
    paid_is other = omega (arith, step, other)

-- ---- the least of all

-- an edge stands on a layer of the grid
layer_below : (s : Size) (e : EdgeNumber) → IsPiece s (Edge e) → e.0 / (2 * tiles s) < layers s
layer_below s e piece = let start = piece.0 in div_below e.0 (2 * tiles s) (layers s) (omega (arith, some_tiles s)) (omega (arith, start))

pub between_layers : (s : Size) (pieces : List (Piece × ℕ)) (costs : List ℕ) → WeighsOnlyPieces s pieces → AreWithinLimit pieces → AreLeastOnAll s pieces costs → AreLeastBetweenTiles s pieces (costs_between costs)
between_layers s pieces costs only small are = record {
  below = λ e weight weighs.
      let tile = tile_edge_of s e.0 in
      let low : tile < 2 * tiles s = mod-lt e.0 (omega (arith, some_tiles s)) in
      let number : e.0 / (2 * tiles s) * (2 * tiles s) + tile ≡ e.0 = tile_edge-number s e.0 in
      let least = (are.each tile low).below (e.0 / (2 * tiles s)) weight (layer_below s e (only (Edge e) (weight, weighs))) (subst (λ n. Weighs pieces (edge n) weight) (sym number) weighs) in
      (slice_index costs tile, has_cost costs tile (omega (arith, low, are.long)) (omega (arith, least, small (Edge e) weight weighs)), least);
  attained = λ p least weighs.
      let found = is_cost costs p least weighs in
      let number = found.number in
      let low : number < 2 * tiles s = omega (arith, found.low, are.long) in
      let at = (are.each number low).attained found.small in (
        record { 0 = at.0 * (2 * tiles s) + number },
        subst (λ n. Weighs pieces (edge_on s number at.0) n) (sym found.value) at.2,
        found.is ∙ ap edge (sym (mod-mul-add at.0 (2 * tiles s) number low)),
      );
}

pub same_tiles : (flat s : Size) → IsFlatOf flat s → HaveSameTiles flat s
same_tiles flat s is = record { cols_of = is.cols_of; rows_of = is.rows_of }

pub costs_known : (flat s : Size) (pieces : List (Piece × ℕ)) (costs : List ℕ) (floors : Floors) → IsFlatOf flat s → WeighsOnlyPieces s pieces → AreWithinLimit pieces → AreLeastOnAll s pieces costs
    → ((e : ℕ) → e < length costs → floor_along floors (edge_axis e) ≤ slice_index costs e) → AreWithin floors → AreTileCosts flat costs floors
costs_known flat s pieces costs floors is only small are floored within = record {
  long = omega (arith, are.long, flat_tiles flat s is);
  inside = λ e low less. tile_pieces flat s pieces (costs_between costs) (same_tiles flat s is) only (between_layers s pieces costs only small are) (edge e) (slice_index costs e, has_cost costs e low less);
  floored = floored;
  within = within;
}

-- all that a struct keeps of its costs
pub record AreKept (s : Size) (costs : List ℕ) (floors : Floors) : Type 0 where
  pub known : AreTileCosts s costs floors
  pub listed : IsWeightList s (costs_between costs)
  pub under : AreLeastOver s (costs_between costs) (cost_over costs)

pub kept : (s : Size) (costs : List ℕ) (floors : Floors) → AreTileCosts s costs floors → AreKept s costs floors
kept s costs floors are = record { known = are; listed = costs_listed s costs floors are; under = costs_under s costs floors are }

-- no cost at first
highest_along : (axis : Axis) → floor_along (record { along_x = max_weight; along_y = max_weight; via = 0 }) axis ≡ max_weight
highest_along X = refl
highest_along Y = refl

pub none_kept : (s : Size) (costs : List ℕ) → costs ≡ replicate (2 * tiles s) no_cost → AreKept s costs (record { along_x = max_weight; along_y = max_weight; via = 0 })
none_kept s costs is =
    let n = 2 * tiles s in
    let long : length costs ≡ n = ap (λ (xs : List ℕ). length xs) is ∙ length-replicate n no_cost in
    let none : (e : ℕ) → e < length costs → slice_index costs e ≡ no_cost = λ e low. ap (λ (xs : List ℕ). slice_index xs e) is ∙ get_or-replicate n e no_cost 0 (omega (arith, low, long)) in
    kept s costs (record { along_x = max_weight; along_y = max_weight; via = 0 }) (record {
      long = long;
      inside = λ e low less. absurd (omega (arith, less, none e low));
      floored = λ e low. omega (arith, none e low, highest_along (edge_axis e));
      within = record { x = omega arith; y = omega arith; vias = omega arith };
    })
