-- A climb between two turns.
use Rattle.std.proofs.Common.{◌≡◌, ℕ, suc, ◌+◌, ◌*◌, ◌<◌, ◌≤◌, List, [], ◌∷◌, ◌++◌, length, map, take, Option, sym, ◌∙◌, ap, subst, arith, zero-add}
use Rattle.std.specs.Prelude.{IfSome, slice_index}
use Rattle.std.specs.List.{AllZip}
use Rattle.std.proofs.lemmas.List.{ext_get_or, length_push, take_all}
use Rattle.std.proofs.lemmas.List.FromFn.{length-map-range_with_len, get_or-map-range_with_len}
use Rattle.std.proofs.lemmas.List.Sums.{sum_by_push}
use Rattle.grid_base.specs.declared.piece.Piece.{Piece}
use Rattle.grid_graph.specs.declared.design.Design.{Design}
use Rattle.grid_graph.specs.declared.grid.Grid.{Grid}
use Rattle.grid_graph.specs.Grids.{edge_numbers, entries}
use Rattle.grid_graph.specs.Limits.{max_nets}
use Rattle.edge_prices.specs.declared.budget.Budget.{Budget}
use Rattle.edge_prices.specs.declared.kept_prices.KeptPrices.{KeptPrices}
use Rattle.edge_prices.specs.Budgets.{most_of}
use Rattle.edge_prices.specs.KeptLists.{grid_of, scale_of, budget_of, loads_of, vector_of, KeepsSetting}
use Rattle.edge_prices.specs.Vectors.{price_vector}
use Rattle.routing_stages.specs.Phases.{phases_load}
use Rattle.sharing_runs.specs.NetSteps.{IsStep}
use Rattle.tree_set.specs.Loads.{load_on, max_tree_load}
use Rattle.dual_bound.specs.Bounds.{BoundsDesign}
use Rattle.bound_climb.specs.declared.climbed.Climbed.{Climbed}
use Rattle.bound_climb.specs.declared.climb_sight.ClimbSight.{ClimbSight}
use Rattle.bound_climb.specs.Climbs.{climb_loads, climb_vector, candidate_prices, candidate_budget, with_price_of, steps_of, max_given_load, max_turns, AreClimbSteps, AreGivenLoads, AreSteps, IsBestCandidate}
use Rattle.bound_climb.specs.ClimbTurns.{seen_prices, seen_budget, GainsSets, HaveRoomFor, IsOffered}
use Rattle.bound_climb.proofs.ClimbOffers.{best_bounds, best_offered}

-- the loads are those after these turns, with their prices at scale 1
pub record KeepsLoads (d : Design) (most : Option ℕ) (loads : List ℕ) (steps : List (List (List Piece))) (kept : KeptPrices) : Type 0 where
  pub grid : grid_of kept ≡ d.grid
  pub scale : scale_of kept ≡ 1
  pub budget : budget_of kept ≡ most
  pub loads_are : loads_of kept ≡ climb_loads d loads steps (length steps)
  pub small : (r : ℕ) → slice_index (loads_of kept) r ≤ max_given_load + length steps * (max_nets * max_tree_load)

-- before the first turn
pub keeps_given : (d : Design) (most : Option ℕ) (loads : List ℕ) (kept : KeptPrices) → AreGivenLoads d.grid loads → grid_of kept ≡ d.grid → scale_of kept ≡ 1 → budget_of kept ≡ most
    → loads_of kept ≡ loads → KeepsLoads d most loads [] kept
keeps_given d most loads kept given grid scale budget same =
    let whole : climb_loads d loads [] 0 ≡ loads =
    ext_get_or 0 (climb_loads d loads [] 0) loads (length-map-range_with_len (λ r. slice_index loads r + phases_load d.grid d.nets [] r) 0 (entries d.grid) ∙ sym given.long)
    (λ r short.
    let inside : r < entries d.grid = omega (arith, short, length-map-range_with_len (λ r. slice_index loads r + phases_load d.grid d.nets [] r) 0 (entries d.grid)) in
    let here = get_or-map-range_with_len (λ r. slice_index loads r + phases_load d.grid d.nets [] r) 0 (entries d.grid) r r 0 inside (zero-add r) in
    omega (arith, here)) in
    record {
      grid = grid;
      scale = scale;
      budget = budget;
      loads_are = same ∙ sym whole;
      small = λ r. omega (arith, given.within r, ap (λ (ls : List ℕ). slice_index ls r) same);
    }

-- there is room for the sets of a turn
pub room_for_turn : (d : Design) (most : Option ℕ) (loads : List ℕ) (steps : List (List (List Piece))) (kept : KeptPrices) (count : ℕ) → length steps < max_turns → count ≡ length d.nets
    → KeepsLoads d most loads steps kept → HaveRoomFor count (loads_of kept)
room_for_turn d most loads steps kept count few one_each was r = omega (arith, was.small r, few, one_each, d.limits.count)

-- after a turn
pub keeps_more : (d : Design) (most : Option ℕ) (loads : List ℕ) (steps : List (List (List Piece))) (trees : List (List Piece)) (kept kept' : KeptPrices) → length trees ≡ length d.nets
    → GainsSets d.grid d.nets trees (loads_of kept) (loads_of kept') → KeepsSetting kept kept' → KeepsLoads d most loads steps kept → KeepsLoads d most loads (steps ++ trees ∷ []) kept'
keeps_more d most loads steps trees kept kept' one_each gains setting was =
    let more : List (List (List Piece)) = steps ++ trees ∷ [] in
    let f : ℕ → ℕ = λ r. slice_index loads r + phases_load d.grid d.nets (take (length more) more) r in
    let f' : ℕ → ℕ = λ r. slice_index loads r + phases_load d.grid d.nets (take (length steps) steps) r in
    let long : length (loads_of kept') ≡ entries d.grid = kept'.kept.loaded.long ∙ ap entries (setting.grid ∙ was.grid) in
    record {
      grid = setting.grid ∙ was.grid;
      scale = setting.scale ∙ was.scale;
      budget = setting.budget ∙ was.budget;
      loads_are = ext_get_or 0 (loads_of kept') (climb_loads d loads more (length more)) (long ∙ sym (length-map-range_with_len f 0 (entries d.grid)))
          (λ r short.
          let inside : r < entries d.grid = omega (arith, short, long) in
          let now = get_or-map-range_with_len f 0 (entries d.grid) r r 0 inside (zero-add r) in
          let before = get_or-map-range_with_len f' 0 (entries d.grid) r r 0 inside (zero-add r) in
          let all : phases_load d.grid d.nets (take (length more) more) r ≡ phases_load d.grid d.nets more r = ap (λ ss. phases_load d.grid d.nets ss r) (take_all (length more) more (omega arith)) in
          let old : phases_load d.grid d.nets (take (length steps) steps) r ≡ phases_load d.grid d.nets steps r = ap (λ ss. phases_load d.grid d.nets ss r) (take_all (length steps) steps (omega arith)) in
          let push : phases_load d.grid d.nets more r ≡ phases_load d.grid d.nets steps r + load_on d.grid d.nets trees r = sum_by_push (λ (ts : List (List Piece)). load_on d.grid d.nets ts r) steps trees in
          omega (arith, gains.value r, ap (λ (ls : List ℕ). slice_index ls r) was.loads_are, now, before, all, old, push));
      small = λ r. omega (arith, gains.limit r, was.small r, length_push steps trees, one_each, d.limits.count);
    }

-- ---- what the nets of the next turn see

vector_is : (d : Design) (most : Option ℕ) (loads : List ℕ) (steps : List (List (List Piece))) (kept : KeptPrices) → KeepsLoads d most loads steps kept
    → vector_of kept ≡ climb_vector d most loads steps (length steps)
vector_is d most loads steps kept keeps =
    ap (λ (g : Grid). price_vector g (loads_of kept) (scale_of kept) (budget_of kept)) keeps.grid
    ∙ ap (λ (ls : List ℕ). price_vector d.grid ls (scale_of kept) (budget_of kept)) keeps.loads_are
    ∙ ap (λ (k : ℕ). price_vector d.grid (climb_loads d loads steps (length steps)) k (budget_of kept)) keeps.scale
    ∙ ap (λ (m : Option ℕ). price_vector d.grid (climb_loads d loads steps (length steps)) 1 m) keeps.budget

-- steps from what is seen are steps of a climb
pub steps_taken : (d : Design) (most : Option ℕ) (loads : List ℕ) (steps : List (List (List Piece))) (trees : List (List Piece)) (kept : KeptPrices) → KeepsLoads d most loads steps kept
    → AllZip (λ n tree. IsStep d.grid n (loads_of kept) (scale_of kept) (budget_of kept) tree) d.nets trees → AreSteps d most (climb_loads d loads steps (length steps)) trees
steps_taken d most loads steps trees kept keeps seen =
    subst (λ (m : Option ℕ). AllZip (λ n tree. IsStep d.grid n (climb_loads d loads steps (length steps)) 1 m tree) d.nets trees) keeps.budget
    (subst (λ (k : ℕ). AllZip (λ n tree. IsStep d.grid n (climb_loads d loads steps (length steps)) k (budget_of kept) tree) d.nets trees) keeps.scale
    (subst (λ (ls : List ℕ). AllZip (λ n tree. IsStep d.grid n ls (scale_of kept) (budget_of kept) tree) d.nets trees) keeps.loads_are seen))

-- ---- a climb in which so many turns were offered

pub record IsClimbing (d : Design) (prices : List ℕ) (budget : Option Budget) (loads : List ℕ) (turn : ℕ) (climbed : Climbed) : Type 0 where
  pub steps : AreClimbSteps d (most_of budget) loads turn (steps_of climbed)
  pub best : IsBestCandidate d prices budget loads turn climbed
  pub bounds : IfSome climbed.bound (λ f. BoundsDesign d (most_of budget) f.num f.den)

-- the candidate that comes of the sets so far was offered
pub climbs_on : (d : Design) (prices : List ℕ) (budget : Option Budget) (loads : List ℕ) (k turn : ℕ) (s : ClimbSight) (climbed new : Climbed) → s.design.now ≡ d
    → turn ≡ k + 1 → length (steps_of climbed) ≡ k → KeepsLoads d (most_of budget) loads (steps_of climbed) s.kept
    → AreClimbSteps d (most_of budget) loads turn (steps_of climbed) → IsBestCandidate d prices budget loads k climbed → IfSome climbed.bound (λ f. BoundsDesign d (most_of budget) f.num f.den)
    → IsOffered s budget turn climbed new → IsClimbing d prices budget loads turn new
climbs_on d prices budget loads k turn s climbed new on next long keeps steps best bounds o =
    let number : turn ≡ suc k = omega (arith, next) in
    let vector : vector_of s.kept ≡ climb_vector d (most_of budget) loads (steps_of climbed) k =
    vector_is d (most_of budget) loads (steps_of climbed) s.kept keeps ∙ ap (λ (j : ℕ). climb_vector d (most_of budget) loads (steps_of climbed) j) long in
    let edges : seen_prices s ≡ candidate_prices d prices budget loads (steps_of climbed) (suc k) =
    ap (λ (e : Design). take (edge_numbers e.grid) (vector_of s.kept)) on ∙ ap (λ (v : List ℕ). take (edge_numbers d.grid) v) vector in
    let wirelength : seen_budget s budget ≡ candidate_budget d budget loads (steps_of climbed) (suc k) =
    ap (λ (e : Design). with_price_of e.grid (vector_of s.kept) budget) on ∙ ap (λ (v : List ℕ). with_price_of d.grid v budget) vector in
    let same : steps_of climbed ≡ steps_of new = ap (λ v. map (λ trees. trees.items) v.items) (sym o.steps) in
    record {
      steps = subst (AreClimbSteps d (most_of budget) loads turn) same steps;
      best = subst (λ (j : ℕ). IsBestCandidate d prices budget loads j new) (sym number)
          (best_offered d prices budget loads k climbed s new on edges wirelength best (subst (λ (j : ℕ). IsOffered s budget j climbed new) number o));
      bounds = best_bounds d budget turn s climbed new on o bounds;
    }
