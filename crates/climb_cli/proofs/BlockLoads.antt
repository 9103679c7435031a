-- The loads of the sets that blocks give the nets, with the wirelength's.
use Rattle.std.proofs.Common.{◌≡◌, ℕ, ◌^◌, ◌<◌, ◌≤◌, List, [], ◌∷◌, ◌++◌, All, length, map, get_or, slice_index, refl, sym, ◌∙◌, ap, ⊎_elim, arith, zero-add}
use Rattle.std.specs.List.{range_with_len}
use Rattle.std.proofs.lemmas.Bool.{cases_eq, cases_lt}
use Rattle.std.proofs.lemmas.List.{ext_get_or, get_or_past}
use Rattle.std.proofs.lemmas.List.FromFn.{length-map-range_with_len, get_or-map-range_with_len, map-range_with_len_more}
use Rattle.std.proofs.lemmas.List.Sums.{sum_by-le}
use Rattle.std.proofs.lemmas.Option.{slice_get-get_or}
use Rattle.std.proofs.lemmas.Slice.Zip.{AllZip-long}
use Rattle.bound_climb.specs.Climbs.{AreGivenLoads, max_given_load}
use Rattle.dual_bound.proofs.Closed.{at_edge, at_wirelength}
use Rattle.grid_base.specs.declared.piece.Piece.{Piece}
use Rattle.grid_base.specs.Lists.{At}
use Rattle.grid_base.proofs.Lists.{AllZip-at}
use Rattle.grid_graph.specs.declared.design.Design.{Design}
use Rattle.grid_graph.specs.declared.grid.Grid.{Grid}
use Rattle.grid_graph.specs.declared.net_spec.NetSpec.{NetSpec}
use Rattle.grid_graph.specs.Grids.{edge_numbers, entries, size_of}
use Rattle.grid_graph.proofs.Grounds.{at_place}
use Rattle.judge_laws.proofs.OneMeasure.{one_list_of_sets}
use Rattle.route_judge.specs.NetLoads.{AreLoadsOf}
use Rattle.route_judge.specs.NetSets.{AreSetsOf, IsSetOfNet}
use Rattle.route_judge.proofs.RunningSums.{load-limit, set_pieces}
use Rattle.route_text.specs.declared.block.Block.{Block}
use Rattle.tree_set.specs.Loads.{load, load_list, load_on}
use Rattle.tree_set.specs.Measures.{wirelength}
use Rattle.tree_set.specs.Routings.{ArePieces}
use Rattle.tree_set.proofs.Counting.{length-pieces}
use Rattle.climb_cli.specs.ClimbedCerts.{AreLoadsOfBlocks, IsWirelengthOfBlocks}

-- ---- the loads of the edges, and then the wirelength

as_load_list : (g : Grid) (nets : List NetSpec) (trees : List (List Piece)) (loads : List ℕ) (wire : ℕ) → length loads ≡ edge_numbers g
    → ((e : ℕ) → slice_index loads e ≡ load g nets trees e) → wire ≡ wirelength trees → loads ++ wire ∷ [] ≡ load_list g nets trees
as_load_list g nets trees loads wire long of is =
    let n = edge_numbers g in
    let f : ℕ → ℕ = load_on g nets trees in
    let front : loads ≡ map f (range_with_len 0 n) = ext_get_or 0 loads (map f (range_with_len 0 n)) (long ∙ sym (length-map-range_with_len f 0 n)) (λ i below.
    let inside : i < n = omega (arith, below, long) in
    of i ∙ sym (at_edge g (wirelength trees) (load g nets trees i) i (λ same. omega (arith, same, inside))) ∙ sym (get_or-map-range_with_len f 0 n i i 0 inside (zero-add i))) in
    let last : wire ≡ f n = is ∙ sym (at_wirelength g (wirelength trees) (load g nets trees n) n refl) in
    ap (λ (xs : List ℕ). xs ++ wire ∷ []) front ∙ ap (λ (w : ℕ). map f (range_with_len 0 n) ++ w ∷ []) last ∙ sym (map-range_with_len_more f 0 n n (zero-add n))

-- blocks give the nets one list of sets, so the loads and the wirelength are those of the same sets
pub with_wirelength : (d : Design) (blocks : List Block) (loads : List ℕ) (wire : ℕ) → length loads ≡ edge_numbers d.grid → AreLoadsOf d blocks loads
    → IsWirelengthOfBlocks d blocks wire → AreLoadsOfBlocks d blocks (loads ++ wire ∷ [])
with_wirelength d blocks loads wire long of measured =
    let same : measured.trees ≡ of.trees = one_list_of_sets d blocks measured.trees of.trees measured.sets of.sets in
    record {
      trees = of.trees;
      sets = of.sets;
      loads_are = as_load_list d.grid d.nets of.trees loads wire long of.of_trees (measured.is_wirelength ∙ ap wirelength same);
    }

-- ---- how large they are

module _ (d : Design) (blocks : List Block) (trees : List (List Piece)) (sets : AreSetsOf d blocks trees) where
  own_set : (k : ℕ) (n : NetSpec) (tree : List Piece) → At d.nets k n → At trees k tree → IsSetOfNet d.grid blocks n tree
  own_set k n tree at_net at_tree = AllZip-at (IsSetOfNet d.grid blocks) d.nets trees k n tree sets at_net at_tree

  pieces_of : (k : ℕ) (n : NetSpec) (tree : List Piece) → At d.nets k n → At trees k tree → ArePieces (size_of d.grid) tree
  pieces_of k n tree at_net at_tree = set_pieces d.grid blocks n tree (own_set k n tree at_net at_tree)

  wire_small : wirelength trees ≤ max_given_load
  wire_small =
      let s = size_of d.grid in
      let long = AllZip-long (IsSetOfNet d.grid blocks) d.nets trees sets in
      let each : All (λ (tree : List Piece). length tree ≤ 2 ^ 25) trees = λ k tree below.
      let net = at_place d.nets k (omega (arith, below, long)) in
      let at_tree = slice_get-get_or trees k tree below in
      let set = own_set k net.0 (get_or trees k tree) net.1 at_tree in
      omega (arith, length-pieces s (get_or trees k tree) set.rising (pieces_of k net.0 (get_or trees k tree) net.1 at_tree), s.within.vertex_limit) in
      omega (arith, sum_by-le (λ (tree : List Piece). length tree) (2 ^ 25) trees each, long, d.limits.count)

  entry_small : (r : ℕ) → load_on d.grid d.nets trees r ≤ max_given_load
  entry_small r = ⊎_elim
      (λ (is : r ≡ edge_numbers d.grid). omega (arith, at_wirelength d.grid (wirelength trees) (load d.grid d.nets trees r) r is, wire_small))
      (λ differs. omega (arith, at_edge d.grid (wirelength trees) (load d.grid d.nets trees r) r differs, load-limit d trees r pieces_of))
      (cases_eq r (edge_numbers d.grid))

-- so they may be given to a climb
pub may_be_given : (d : Design) (blocks : List Block) (loads : List ℕ) → AreLoadsOfBlocks d blocks loads → AreGivenLoads d.grid loads
may_be_given d blocks loads of =
    let f : ℕ → ℕ = load_on d.grid d.nets of.trees in
    let count = entries d.grid in
    let listed = load_list d.grid d.nets of.trees in
    let long : length listed ≡ count = length-map-range_with_len f 0 count in
    record {
      long = ap length of.loads_are ∙ long;
      within = λ r.
          let here : slice_index loads r ≡ slice_index listed r = ap (λ (xs : List ℕ). slice_index xs r) of.loads_are in
          ⊎_elim
          (λ (inside : r < count). omega (arith, here, get_or-map-range_with_len f 0 count r r 0 inside (zero-add r), entry_small d blocks of.trees of.sets r))
          (λ (past : count ≤ r). omega (arith, here, get_or_past listed r 0 (omega (arith, past, long))))
          (cases_lt r count);
    }
