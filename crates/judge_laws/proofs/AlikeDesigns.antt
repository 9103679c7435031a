-- Alike designs are judged alike.
use Rattle.std.proofs.Common.{◌≡◌, ℕ, ◌+◌, ◌*◌, ◌==◌, ◌&&◌, ◌<◌, List, ◌++◌, map, sum, cond, ltb, slice_index, unwrap_or, Option, Some, None, refl, sym, ◌∙◌, ap, subst, inl, inr, ⊎_elim, ◌↔◌, [], ◌∷◌, length, ap₂}
use Rattle.std.specs.List.{AllZip, count_by, filter, list_any, range_with_len, sum_by, zip}
use Rattle.std.specs.Option.{option_zip, ForSome}
use Rattle.std.proofs.lemmas.Slice.Zip.{AllZip-long}
use Rattle.grid_base.specs.declared.piece.Piece.{Piece}
use Rattle.grid_base.specs.declared.piece.Piece.TheVariants.{Edge, Via}
use Rattle.grid_base.specs.declared.size.Size.{Size}
use Rattle.grid_base.specs.declared.vertex.Vertex.{Vertex}
use Rattle.grid_base.specs.Lines.{IsBetween}
use Rattle.grid_base.specs.Numbers.{IsPiece, cols, rows, layers, vertices, layer_of, start_of, place_at, end_place, to_next_layer}
use Rattle.grid_base.specs.Walks.{WalkBetween}
use Rattle.grid_base.proofs.Lists.{AllZip-at, AllZip-from_places}
use Rattle.grid_base.proofs.Walks.{WalkBetween-superset}
use Rattle.grid_graph.specs.declared.grid.Grid.{Grid}
use Rattle.grid_graph.specs.declared.ground.Ground.{Ground}
use Rattle.grid_graph.specs.declared.ground.Ground.TheVariants.{Open, WithChoked}
use Rattle.grid_graph.specs.declared.net_spec.NetSpec.{NetSpec}
use Rattle.grid_graph.specs.Alike.{AreAlike, AreAlikeDesigns}
use Rattle.grid_graph.specs.Grids.{size_of}
use Rattle.grid_graph.specs.Grounds.{IsGround, AreGrounds}
use Rattle.grid_graph.specs.Layouts.{Layout}
use Rattle.grid_graph.specs.Tiles.{tile_index}
use Rattle.grid_graph.proofs.Alike.{JoinsTerminals-alike, AreAlike-sym}
use Rattle.edge_prices.specs.PieceLists.{admits, edge, has_piece}
use Rattle.edge_prices.specs.Weights.{cost}
use Rattle.lower_bound.specs.Costs.{costed}
use Rattle.lower_bound.specs.NetBounds.{IsNetBound}
use Rattle.edge_prices.specs.declared.budget.Budget.{Budget}
use Rattle.fractions.specs.declared.fraction.Fraction.{Fraction}
use Rattle.edge_prices.specs.Budgets.{most_of, price_per_piece}
use Rattle.tree_set.specs.Loads.{holds, load}
use Rattle.tree_set.specs.Measures.{excess, overflow, IsPeakWith, wirelength}
use Rattle.dual_bound.specs.DesignBounds.{IsBoundOfNet, IsSumOfBounds, IsBoundOrNone}
use Rattle.dual_bound.specs.Prices.{capacity_cost}
use Rattle.route_text.specs.declared.block.Block.{Block}
use Rattle.route_text.specs.declared.point.Point.{Point}
use Rattle.route_text.specs.declared.segment.Segment.{Segment}
use Rattle.route_text.specs.BlockPieces.{layer_index, place_on_layer, point_place, LiesOn, IsPieceOf}
use Rattle.route_judge.specs.Bounds.{HasResource}
use Rattle.route_judge.specs.Counts.{listed_prices, open_count, forced_count}
use Rattle.route_judge.specs.Measured.{beyond_count, is_beyond, is_choked, AreMeasured, IsMeasureOf}
use Rattle.route_judge.specs.NetSets.{IsPieceOfNet, IsSetOfNet, HasNet, AreSetsOf}
use Rattle.route_judge.specs.Objections.{IsOutside, IsSlanted, CrossesWall, Objection, Applies, Finds}
use Rattle.cert_text.specs.declared.cert.Cert.{Cert}
use Rattle.grid_graph.specs.declared.design.Design.{Design}
use Rattle.tree_set.specs.declared.measure.Measure.{Measure}
use Rattle.route_judge.specs.declared.counted.Counted.TheVariants.{Nets, Forced, Prices}
use Rattle.route_judge.specs.declared.reason.Reason.{Reason}
use Rattle.route_judge.specs.Judgements.{IsJudged, IsMeasureWith, IsFound}
use Rattle.route_judge.specs.Objections as objections
use Rattle.route_judge.specs.Orders.{all_block_objections, route_objections, measure_objections, bound_objections, objections_but_bound, all_objections}
use Rattle.judge_laws.specs.Meeting.{Meet}
use Rattle.judge_laws.proofs.OneBound.{same_grounds}
use Rattle.judge_laws.proofs.OneMeasure.{one_list_of_sets}
use Rattle.judge_laws.proofs.OneVerdict.{one_measure}

-- ==== over one of two alike grids and over the other

all_zip : {A B : Type 0} (R S : A → B → Type 0) (xs : List A) (ys : List B) → ((x : A) (y : B) → R x y → S x y) → AllZip R xs ys → AllZip S xs ys
all_zip R S xs ys more all = AllZip-from_places S xs ys (AllZip-long R xs ys all) (λ k x y at_x at_y. more x y (AllZip-at R xs ys k x y all at_x at_y))

module _ (g h : Grid) (alike : AreAlike g h) where
  -- ---- where points and segments lie

  places : (p : Point) → point_place g p ≡ point_place h p
  places p =
      ap (λ (y : Layout). place_on_layer (option_zip (tile_index y.origin.0 y.tile.0 (cols y.size) p.x) (tile_index y.origin.1 y.tile.1 (rows y.size) p.y)) (layer_index (layers y.size) p.layer)) alike.layout

  outside_alike : (x : Segment) → IsOutside g x → IsOutside h x
  outside_alike x outside = ⊎_elim (λ none. inl (sym (places x.from) ∙ none)) (λ none. inr (sym (places x.to) ∙ none)) outside

  slanted_alike : (x : Segment) → IsSlanted g x → IsSlanted h x
  slanted_alike x is = record { from = is.from; to = is.to; starts = sym (places x.from) ∙ is.starts; ends = sym (places x.to) ∙ is.ends; slanted = is.slanted }

  lies_alike : (x : Segment) (p : Piece) → LiesOn g x p → LiesOn h x p
  lies_alike x p on = record {
    from = on.from;
    to = on.to;
    starts = sym (places x.from) ∙ on.starts;
    ends = sym (places x.to) ∙ on.ends;
    straight = on.straight;
    of_grid = subst (λ (s : Size). IsPiece s p) alike.size on.of_grid;
    start = subst (λ (s : Size). IsBetween on.from on.to (place_at s (start_of p))) alike.size on.start;
    end = subst (λ (s : Size). IsBetween on.from on.to (end_place s p)) alike.size on.end;
  }

  wall_alike : (x : Segment) → CrossesWall g x → CrossesWall h x
  wall_alike x crosses = (crosses.0, lies_alike x (Edge crosses.0) crosses.1, sym (alike.kinds crosses.0.0) ∙ crosses.2)

  piece_alike : (b : Block) (p : Piece) → IsPieceOf g b p → IsPieceOf h b p
  piece_alike b p of = (of.0, of.1, lies_alike of.0 p of.2)

  piece_of_net_alike : (blocks : List Block) (n : NetSpec) (p : Piece) → IsPieceOfNet g blocks n p → IsPieceOfNet h blocks n p
  piece_of_net_alike blocks n p of = (of.0, of.1, of.2, piece_alike of.0 p of.3)

  walk_alike : (F G : Piece → Type 0) (a b : ℕ) → ((p : Piece) → F p → G p) → WalkBetween (size_of g) F a b → WalkBetween (size_of h) G a b
  walk_alike F G a b more walk = WalkBetween-superset (size_of h) F G more a b (subst (λ (s : Size). WalkBetween s F a b) alike.size walk)

  -- ---- what sets measure

  loads_alike : (nets : List NetSpec) (trees : List (List Piece)) → load g nets trees ≡ load h nets trees
  loads_alike nets trees = λ i e. sum_by (λ x. cond (holds x.1 e) (alike.demands x.0.width e i) 0) (zip nets trees)

  overflow_alike : (l : ℕ → ℕ) → overflow g l ≡ overflow h l
  overflow_alike l = λ i. sum (map (λ e. excess (alike.kinds e i) (l e) (alike.capacities e i)) (range_with_len 0 (2 * vertices (alike.size i))))

  peak_alike : (l : ℕ → ℕ) (wire : ℕ) (budget : Option ℕ) (peak : Option Fraction) → IsPeakWith g l wire budget peak → IsPeakWith h l wire budget peak
  peak_alike l wire None None is = λ e is_open. is e (alike.kinds e ∙ is_open)
  peak_alike l wire None (Some f) is = record {
    edge = is.edge;
    is_open = sym (alike.kinds is.edge) ∙ is.is_open;
    reached = rw (alike.capacities is.edge) at is.reached;
    most = λ e is_open. rw (alike.capacities e) at (is.most e (alike.kinds e ∙ is_open));
  }
  peak_alike l wire (Some most) None is = is
  peak_alike l wire (Some most) (Some f) is = record {
    reached = ⊎_elim (λ of_wire. inl of_wire) (λ of_edge. inr (of_edge.0, sym (alike.kinds of_edge.0) ∙ of_edge.1, rw (alike.capacities of_edge.0) at of_edge.2)) is.reached;
    most = λ e is_open. rw (alike.capacities e) at (is.most e (alike.kinds e ∙ is_open));
    of_wire = is.of_wire;
  }

  beyond_alike : (over : Ground) (p : Piece) → is_beyond g over p ≡ is_beyond h over p
  beyond_alike Open (Edge e) = ap is_choked (alike.kinds e.0)
  beyond_alike Open (Via v) = refl
  beyond_alike WithChoked p = refl

  beyond_count_alike : (over : List Ground) (trees : List (List Piece)) → beyond_count g over trees ≡ beyond_count h over trees
  beyond_count_alike over trees = λ i. count_by (λ x. list_any (λ p. beyond_alike x.0 p i) x.1) (zip over trees)

  -- ---- what resources there are, and what they cost

  resource_alike : (budget : Option ℕ) → HasResource g budget → HasResource h budget
  resource_alike budget has = (has.0, record { entry = rw alike.size at has.1.entry; has_capacity = rw (alike.size, alike.capacities has.0) at has.1.has_capacity })

  opens_alike : open_count g ≡ open_count h
  opens_alike = λ i. count_by (λ e. ltb 0 (alike.capacities e i)) (range_with_len 0 (2 * vertices (alike.size i)))

  listed_alike : (listed : List ℕ) → listed_prices g listed ≡ listed_prices h listed
  listed_alike listed = λ i.
      map (λ e. cond (ltb 0 (alike.capacities e i)) (slice_index listed (count_by (λ x. ltb 0 (alike.capacities x i)) (range_with_len 0 e))) 0)
      (range_with_len 0 (2 * vertices (alike.size i)))

  capacity_cost_alike : (prices : List ℕ) (budget : Option Budget) → capacity_cost g prices budget ≡ capacity_cost h prices budget
  capacity_cost_alike prices budget = λ i.
      let edges = 2 * vertices (alike.size i) in
      sum_by (λ r. cond (r == edges) (price_per_piece budget) (slice_index prices r) * cond (r == edges) (unwrap_or (most_of budget) 0) (alike.capacities r i))
      (range_with_len 0 (edges + 1))

  cost_alike : (width : ℕ) (prices : List ℕ) (p : Piece) → cost g width prices p ≡ cost h width prices p
  cost_alike width prices (Edge e) = λ i. cond (ltb 0 (alike.capacities e.0 i)) (slice_index prices e.0 * alike.demands width e.0 i) 0
  cost_alike width prices (Via v) = refl

  has_alike : (over : Ground) (p : Piece) → has_piece g over p ≡ has_piece h over p
  has_alike over (Edge e) = λ i. ltb e.0 (2 * vertices (alike.size i)) && admits over (alike.kinds e.0 i)
  has_alike over (Via v) = ap (λ (s : Size). ltb v.0 (vertices s) && ltb (layer_of s v.0 + 1) (layers s)) alike.size

  costed_alike : (width : ℕ) (over : Ground) (prices : List ℕ) (per_piece : ℕ) → costed g width over prices per_piece ≡ costed h width over prices per_piece
  costed_alike width over prices per_piece = λ i.
      map (λ p. (p, cost_alike width prices p i + per_piece))
      (filter (λ p. has_alike over p i) (map edge (range_with_len 0 (2 * vertices (alike.size i))) ++ map to_next_layer (range_with_len 0 (vertices (alike.size i)))))

  -- ---- grounds and bounds

  ground_alike : (terminals : List Vertex) (over : Ground) → IsGround g terminals over → IsGround h terminals over
  ground_alike terminals Open is = (JoinsTerminals-alike g h Open terminals alike).0 is
  ground_alike terminals WithChoked is = (λ joins. is.0 ((JoinsTerminals-alike g h Open terminals alike).1 joins), (JoinsTerminals-alike g h WithChoked terminals alike).0 is.1)

  bound_alike : (prices : List ℕ) (budget : Option Budget) (n : NetSpec) (bound : ℕ) → IsBoundOfNet g prices budget n bound → IsBoundOfNet h prices budget n bound
  bound_alike prices budget n bound is = record {
    over = is.over;
    is_ground = ground_alike n.terminals is.over is.is_ground;
    is_bound = subst (λ (x : Size × List (Piece × ℕ)). IsNetBound x.0 x.1 n.terminals bound) (λ i. (alike.size i, costed_alike n.width is.over prices (price_per_piece budget) i)) is.is_bound;
  }

  sum_alike : (prices : List ℕ) (budget : Option Budget) (nets : List NetSpec) (total : ℕ) → IsSumOfBounds g prices budget nets total → IsSumOfBounds h prices budget nets total
  sum_alike prices budget nets total is = record {
    bounds = is.bounds;
    each = all_zip (IsBoundOfNet g prices budget) (IsBoundOfNet h prices budget) nets is.bounds (bound_alike prices budget) is.each;
    sums = is.sums;
  }

-- ---- the set of a net

set_alike : (g h : Grid) → AreAlike g h → (blocks : List Block) (n : NetSpec) (tree : List Piece) → IsSetOfNet g blocks n tree → IsSetOfNet h blocks n tree
set_alike g h alike blocks n tree is = record {
  rising = is.rising;
  pieces = λ p. (
    λ held. piece_of_net_alike g h alike blocks n p ((is.pieces p).0 held),
    λ of. (is.pieces p).1 (piece_of_net_alike h g (AreAlike-sym g h alike) blocks n p of),
  );
}

-- ==== of alike designs

pub turned_designs : (d e : Design) → AreAlikeDesigns d e → AreAlikeDesigns e d
turned_designs d e alike = record { grids = AreAlike-sym d.grid e.grid alike.grids; nets = sym alike.nets }

module _ (d e : Design) (alike : AreAlikeDesigns d e) where
  back : AreAlikeDesigns e d
  back = turned_designs d e alike

  applies_too : (o : Objection) → Applies d o → Applies e o
  applies_too (objections.unknown_net k block) none = λ has. none (subst (λ (nets : List NetSpec). HasNet nets block.id) (sym alike.nets) has)
  applies_too (objections.repeated_net earlier block) is = is
  applies_too (objections.point_outside k i segment) is = outside_alike d.grid e.grid alike.grids segment is
  applies_too (objections.slanted k i segment) is = slanted_alike d.grid e.grid alike.grids segment is
  applies_too (objections.on_wall k i segment) is = wall_alike d.grid e.grid alike.grids segment is
  applies_too (objections.not_joined block) (n, held, named, apart) = (
    n,
    rw alike.nets at held,
    named,
    λ joins. apart (λ a b at_a at_b. walk_alike e.grid d.grid back.grids (IsPieceOf e.grid block) (IsPieceOf d.grid block) a b (piece_alike e.grid d.grid back.grids block) (joins a b at_a at_b)),
  )
  applies_too (objections.missing_net blocks n) is = is
  applies_too (objections.wrong_overflow stated found) is = is
  applies_too (objections.wrong_wirelength stated found) is = is
  applies_too (objections.wrong_peak stated found) is = is
  applies_too (objections.wrong_count what stated found) is = is
  applies_too (objections.bound_too_high budget None found) has = resource_alike d.grid e.grid alike.grids budget has
  applies_too (objections.bound_too_high budget (Some stated) found) high =
      ⊎_elim (λ none. inl (λ has. none (resource_alike e.grid d.grid back.grids budget has))) (λ higher. inr higher) high

finds_too : (d e : Design) → AreAlikeDesigns d e → (xs : List Objection) (found : Option Reason) → Finds d xs found → Finds e xs found
finds_too d e alike [] found is = is
finds_too d e alike (o ∷ xs) found is = ⊎_elim
    (λ here. inl (applies_too d e alike o here.0, here.1))
    (λ later. inr (λ applies. later.0 (applies_too e d (turned_designs d e alike) o applies), finds_too d e alike xs found later.1))
    is

module _ (d e : Design) (alike : AreAlikeDesigns d e) where
  sets_too : (blocks : List Block) (trees : List (List Piece)) → AreSetsOf d blocks trees → AreSetsOf e blocks trees
  sets_too blocks trees are =
      all_zip (IsSetOfNet d.grid blocks) (IsSetOfNet e.grid blocks) e.nets trees (set_alike d.grid e.grid alike.grids blocks)
      (subst (λ (nets : List NetSpec). AllZip (IsSetOfNet d.grid blocks) nets trees) alike.nets are)

  loads : (trees : List (List Piece)) → load d.grid d.nets trees ≡ load e.grid e.nets trees
  loads trees = loads_alike d.grid e.grid alike.grids d.nets trees ∙ ap (λ nets. load e.grid nets trees) alike.nets

  pub measure_too : (budget : Option ℕ) (trees : List (List Piece)) (m : Measure) → IsMeasureOf d budget trees m → IsMeasureOf e budget trees m
  measure_too budget trees m is = record {
    of_overflow = is.of_overflow ∙ overflow_alike d.grid e.grid alike.grids (load d.grid d.nets trees) ∙ ap (overflow e.grid) (loads trees);
    of_wirelength = is.of_wirelength;
    of_peak = subst (λ l. IsPeakWith e.grid l (wirelength trees) budget m.peak) (loads trees) (peak_alike d.grid e.grid alike.grids (load d.grid d.nets trees) (wirelength trees) budget m.peak is.of_peak);
  }

  pub measured_too : (blocks : List Block) (cert : Cert) (m : Measure) → IsMeasureWith d blocks cert m → IsMeasureWith e blocks cert m
  measured_too blocks cert m is = (is.0, sets_too blocks is.0 is.1, measure_too _ is.0 m is.2)

  bound_too : (prices : List ℕ) (budget : Option Budget) (found : Option Fraction) → IsBoundOrNone d prices budget found → IsBoundOrNone e prices budget found
  bound_too prices budget None is = sym (capacity_cost_alike d.grid e.grid alike.grids prices budget) ∙ is
  bound_too prices budget (Some f) is =
      let cost = capacity_cost_alike d.grid e.grid alike.grids prices budget in
      record {
        exists = rw cost at is.exists;
        total = is.total;
        is_total = subst (λ nets. IsSumOfBounds e.grid prices budget nets is.total) alike.nets (sum_alike d.grid e.grid alike.grids prices budget d.nets is.total is.is_total);
        ratio = rw cost at is.ratio;
      }

  found_too : (cert : Cert) (found : Option Fraction) → IsFound d cert found → IsFound e cert found
  found_too cert found is =
      subst (λ prices. IsBoundOrNone e prices cert.budget found) (listed_alike d.grid e.grid alike.grids cert.prices)
      (bound_too (listed_prices d.grid cert.prices) cert.budget found is)

  pub grounds_too : (over : List Ground) → AreGrounds d.grid d.nets over → AreGrounds e.grid e.nets over
  grounds_too over are =
      all_zip (λ n found. IsGround d.grid n.terminals found) (λ n found. IsGround e.grid n.terminals found) e.nets over (λ n found. ground_alike d.grid e.grid alike.grids n.terminals found)
      (subst (λ (nets : List NetSpec). AreGrounds d.grid nets over) alike.nets are)

  -- ---- the same objections are raised

  against_routes : (blocks : List Block) → route_objections d blocks ≡ route_objections e blocks
  against_routes blocks = ap (λ nets. all_block_objections blocks ++ map (objections.missing_net blocks) nets) alike.nets

  pub routes_found_too : (blocks : List Block) (found : Option Reason) → Finds d (route_objections d blocks) found → Finds e (route_objections e blocks) found
  routes_found_too blocks found is = subst (λ xs. Finds e xs found) (against_routes blocks) (finds_too d e alike (route_objections d blocks) found is)

  but_bound : (over : List Ground) (blocks : List Block) (cert : Cert) (m : Measure) → objections_but_bound d over blocks cert m ≡ objections_but_bound e over blocks cert m
  but_bound over blocks cert m = λ i.
      against_routes blocks i
      ++ (measure_objections cert m
      ++ objections.wrong_count Nets cert.nets (length (alike.nets i))
      ∷ objections.wrong_count Forced cert.forced (forced_count over)
      ∷ objections.wrong_count Prices (length cert.prices) (opens_alike d.grid e.grid alike.grids i)
      ∷ [])

  same_grounds_judged : (over : List Ground) (blocks : List Block) (cert : Cert) (reason : Option Reason) → IsJudged d over blocks cert reason → IsJudged e over blocks cert reason
  same_grounds_judged over blocks cert reason j =
      let back = turned_designs d e alike in
      record {
        measure = j.measure;
        found = j.found;
        is_measure = λ are. measured_too blocks cert j.measure
            (j.is_measure (finds_too e d back (route_objections d blocks) None (subst (λ xs. Finds e xs None) (sym (against_routes blocks)) are)));
        is_found = λ none. found_too cert j.found
            (j.is_found (finds_too e d back (objections_but_bound d over blocks cert j.measure) None (subst (λ xs. Finds e xs None) (sym (but_bound over blocks cert j.measure)) none)));
        first = subst (λ xs. Finds e (xs ++ bound_objections cert j.found) reason) (but_bound over blocks cert j.measure)
            (finds_too d e alike (all_objections d over blocks cert j.measure j.found) reason j.first);
      }

  judged_too : (over others : List Ground) (blocks : List Block) (cert : Cert) (reason : Option Reason) → AreGrounds d.grid d.nets over → AreGrounds e.grid e.nets others
      → IsJudged d over blocks cert reason → IsJudged e others blocks cert reason
  judged_too over others blocks cert reason are other j =
      subst (λ x. IsJudged e x blocks cert reason) (same_grounds e.grid e.nets over others (grounds_too over are) other) (same_grounds_judged over blocks cert reason j)

-- ---- the laws

pub judged_alike : (d e : Design) (over others : List Ground) (blocks : List Block) (cert : Cert) (reason : Option Reason) → AreAlikeDesigns d e
    → AreGrounds d.grid d.nets over → AreGrounds e.grid e.nets others → IsJudged d over blocks cert reason ↔ IsJudged e others blocks cert reason
judged_alike d e over others blocks cert reason alike are other = (
  judged_too d e alike over others blocks cert reason are other,
  judged_too e d (turned_designs d e alike) others over blocks cert reason other are,
)

pub meet_alike : (d e : Design) (over others : List Ground) (blocks : List Block) (cert : Cert) → AreAlikeDesigns d e
    → AreGrounds d.grid d.nets over → AreGrounds e.grid e.nets others → Meet d over blocks cert → Meet e others blocks cert
meet_alike d e over others blocks cert alike are other meet = record {
  accepted = (judged_alike d e over others blocks cert None alike are other).0 meet.accepted;
  only = λ reason j. meet.only reason ((judged_alike d e over others blocks cert reason alike are other).1 j);
  measured = λ m is. meet.measured m (measured_too e d (turned_designs d e alike) blocks cert m is);
}

pub measured_once : (d e : Design) (over others : List Ground) (blocks : List Block) (budget : Option ℕ) (one other : Measure) (few more : ℕ) → AreAlikeDesigns d e
    → AreGrounds d.grid d.nets over → AreGrounds e.grid e.nets others → ForSome budget (λ most. 0 < most)
    → AreMeasured d over blocks budget one few → AreMeasured e others blocks budget other more → (one ≡ other) × (few ≡ more)
measured_once d e over others blocks budget one other few more alike are also may first second =
    let sets = sets_too d e alike blocks first.trees first.sets in
    let trees : first.trees ≡ second.trees = one_list_of_sets e blocks first.trees second.trees sets second.sets in
    let grounds : over ≡ others = same_grounds e.grid e.nets over others (grounds_too d e alike over are) also in (
      one_measure e blocks budget one other may
          (first.trees, sets, measure_too d e alike budget first.trees one first.measure) (second.trees, second.sets, second.measure),
      first.beyond_ground ∙ beyond_count_alike d.grid e.grid alike.grids over first.trees ∙ ap₂ (beyond_count e.grid) grounds trees ∙ sym second.beyond_ground,
    )
