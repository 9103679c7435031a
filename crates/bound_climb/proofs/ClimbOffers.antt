-- The candidates of a climb, as they are offered one after another.
use Rattle.std.proofs.Common.{◌≡◌, ℕ, zero, suc, ◌+◌, ◌<◌, ◌≤◌, List, [], ◌∷◌, ◌++◌, length, map, take, Option, Some, None, refl, sym, ◌∙◌, ap, subst, ⊎_elim, arith}
use Rattle.std.specs.Prelude.{IfSome}
use Rattle.std.proofs.lemmas.Bool.{cases_lt}
use Rattle.std.proofs.lemmas.List.{length_push, length-take, get_or-take, get_or_past}
use Rattle.std.proofs.lemmas.Option.{same_Some, slice_get_within}
use Rattle.grid_base.specs.declared.piece.Piece.{Piece}
use Rattle.grid_base.proofs.Lists.{At-push_cases}
use Rattle.grid_graph.specs.declared.design.Design.{Design}
use Rattle.grid_graph.specs.declared.grid.Grid.{Grid}
use Rattle.grid_graph.specs.Grids.{edge_numbers}
use Rattle.edge_prices.specs.declared.budget.Budget.{Budget}
use Rattle.edge_prices.specs.Budgets.{most_of, IsWithinLimits}
use Rattle.edge_prices.specs.Limits.{max_price, MayBeBudget}
use Rattle.edge_prices.specs.Weights.{AreEdgePrices, IsPriceList}
use Rattle.edge_prices.proofs.PriceVectors.{price_vector-IsPriceList}
use Rattle.fractions.specs.declared.fraction.Fraction.{Fraction}
use Rattle.dual_bound.specs.Bounds.{BoundsDesign}
use Rattle.dual_bound.specs.DesignBounds.{IsBoundOrNone}
use Rattle.dual_bound.specs.Prices.{ArePricesWith}
use Rattle.bound_climb.specs.declared.climbed.Climbed.{Climbed}
use Rattle.bound_climb.specs.declared.climb_sight.ClimbSight.{ClimbSight}
use Rattle.bound_climb.specs.Climbs.{climb_loads, climb_vector, candidate_prices, candidate_budget, with_price_of, steps_of, AreCandidateBounds, IsBestCandidate, IsFirstGreatest, IsGreaterBound}
use Rattle.bound_climb.specs.ClimbTurns.{seen_prices, seen_budget, HasAsBest, IsOffered}
use Rattle.bound_climb.proofs.ClimbBests.{first_of_one, greatest_left, greatest_taken, greater_or_not}
use Rattle.bound_climb.proofs.ClimbSteps.{budget_before, prices_before}

-- ---- price lists

-- the edges' prices of a price list
edges_priced : (g : Grid) (prices : List ℕ) → IsPriceList g prices → AreEdgePrices g (take (edge_numbers g) prices)
edges_priced g prices is = record {
  long = omega (arith, length-take (edge_numbers g) prices, is.long);
  listed = record {
    each = omega (arith, length-take (edge_numbers g) prices, is.long);
    within = λ r. ⊎_elim
        (λ (inside : r < edge_numbers g). omega (arith, get_or-take (edge_numbers g) prices r 0 inside, is.listed.within r))
        (λ (past : edge_numbers g ≤ r). omega (arith, get_or_past (take (edge_numbers g) prices) r 0 (omega (arith, length-take (edge_numbers g) prices, past))))
        (cases_lt r (edge_numbers g));
    closed = λ e number none. get_or-take (edge_numbers g) prices e 0 number ∙ is.listed.closed e number none;
  };
}

pub most_kept : (g : Grid) (vector : List ℕ) (budget : Option Budget) → most_of (with_price_of g vector budget) ≡ most_of budget
most_kept g vector None = refl
most_kept g vector (Some b) = refl

within_limits : (g : Grid) (vector : List ℕ) (budget : Option Budget) → IsPriceList g vector → IsWithinLimits budget → IsWithinLimits (with_price_of g vector budget)
within_limits g vector None is limits = λ b same. cc
within_limits g vector (Some b) is limits = λ x same. subst (λ (y : Budget). MayBeBudget y.most × (y.price ≤ max_price)) (same_Some _ x same) ((limits b refl).0, is.listed.within (edge_numbers g))

-- each candidate is a price list
pub candidate_priced : (d : Design) (prices : List ℕ) (budget : Option Budget) (loads : List ℕ) (steps : List (List (List Piece))) (k : ℕ) → ArePricesWith d.grid prices budget
    → ArePricesWith d.grid (candidate_prices d prices budget loads steps k) (candidate_budget d budget loads steps k)
candidate_priced d prices budget loads steps zero given = given
candidate_priced d prices budget loads steps (suc before) given =
    let listed = price_vector-IsPriceList d.grid (climb_loads d loads steps before) 1 (most_of budget) in
    record {
      edges = edges_priced d.grid (climb_vector d (most_of budget) loads steps before) listed;
      wirelength = within_limits d.grid (climb_vector d (most_of budget) loads steps before) budget listed given.wirelength;
    }

pub best_priced : (d : Design) (prices : List ℕ) (budget : Option Budget) (loads : List ℕ) (turns : ℕ) (climbed : Climbed) → ArePricesWith d.grid prices budget
    → IsBestCandidate d prices budget loads turns climbed → ArePricesWith d.grid climbed.prices.items climbed.budget
best_priced d prices budget loads turns climbed given best =
    subst (λ (ps : List ℕ). ArePricesWith d.grid ps climbed.budget) (sym best.best_prices)
    (subst (λ (b : Option Budget). ArePricesWith d.grid (candidate_prices d prices budget loads (steps_of climbed) climbed.turn) b) (sym best.best_budget)
    (candidate_priced d prices budget loads (steps_of climbed) climbed.turn given))

-- ---- an offer

-- what is offered, by the prices as they were read
pub offered : (s : ClimbSight) (budget : Option Budget) (turn : ℕ) (old new : Climbed) (prices : List ℕ) (priced : Option Budget) (bound : Option Fraction)
    → prices ≡ seen_prices s → priced ≡ seen_budget s budget → most_of priced ≡ most_of budget
    → IsBoundOrNone s.design.now prices priced bound → IfSome bound (λ f. BoundsDesign s.design.now (most_of priced) f.num f.den)
    → (IsGreaterBound bound old.bound → HasAsBest prices priced bound turn new) → (¬ IsGreaterBound bound old.bound → new ≡ old) → new.steps ≡ old.steps
    → IsOffered s budget turn old new
offered s budget turn old new prices priced bound edges wirelength most is bounds taken left steps = record {
  bound = bound;
  is_bound = subst (λ (b : Option Budget). IsBoundOrNone s.design.now (seen_prices s) b bound) wirelength (subst (λ (ps : List ℕ). IsBoundOrNone s.design.now ps priced bound) edges is);
  bounds = subst (λ (m : Option ℕ). IfSome bound (λ f. BoundsDesign s.design.now m f.num f.den)) most bounds;
  taken = λ above.
      subst (λ (b : Option Budget). HasAsBest (seen_prices s) b bound turn new) wirelength (subst (λ (ps : List ℕ). HasAsBest ps priced bound turn new) edges (taken above));
  left = left;
  steps = steps;
}

-- ---- the best candidate

-- candidate 0 alone
pub best_first : (d : Design) (prices : List ℕ) (budget : Option Budget) (loads : List ℕ) (climbed : Climbed) → IsBoundOrNone d prices budget climbed.bound
    → HasAsBest prices budget climbed.bound 0 climbed → IsBestCandidate d prices budget loads 0 climbed
best_first d prices budget loads climbed is has = record {
  bounds = climbed.bound ∷ [];
  are_bounds = record {
    long = refl;
    each = λ k bound at. ⊎_elim
        (λ none. absurd (omega (arith, slice_get_within [] k bound none)))
        (λ last.
        subst (λ (j : ℕ). IsBoundOrNone d (candidate_prices d prices budget loads (steps_of climbed) j) (candidate_budget d budget loads (steps_of climbed) j) bound) (sym last.0)
        (subst (λ (b : Option Fraction). IsBoundOrNone d prices budget b) (sym last.1) is))
        (At-push_cases [] climbed.bound bound k at);
  };
  best = subst (λ (k : ℕ). IsFirstGreatest (climbed.bound ∷ []) k climbed.bound) (sym has.turn_is) (first_of_one climbed.bound);
  best_prices = subst (λ (k : ℕ). climbed.prices.items ≡ candidate_prices d prices budget loads (steps_of climbed) k) (sym has.turn_is) has.prices_are;
  best_budget = subst (λ (k : ℕ). climbed.budget ≡ candidate_budget d budget loads (steps_of climbed) k) (sym has.turn_is) has.budget_is;
}

-- the bounds of one candidate more
bounds_more : (d : Design) (prices : List ℕ) (budget : Option Budget) (loads : List ℕ) (steps : List (List (List Piece))) (k : ℕ) (bounds : List (Option Fraction)) (bound : Option Fraction)
    → AreCandidateBounds d prices budget loads steps k bounds
    → IsBoundOrNone d (candidate_prices d prices budget loads steps (suc k)) (candidate_budget d budget loads steps (suc k)) bound
    → AreCandidateBounds d prices budget loads steps (suc k) (bounds ++ bound ∷ [])
bounds_more d prices budget loads steps k bounds bound were is = record {
  long = omega (arith, length_push bounds bound, were.long);
  each = λ j other at. ⊎_elim
      (λ old. were.each j other old)
      (λ last.
      let place : j ≡ suc k = omega (arith, last.0, were.long) in
      subst (λ (i : ℕ). IsBoundOrNone d (candidate_prices d prices budget loads steps i) (candidate_budget d budget loads steps i) other) (sym place)
      (subst (λ (b : Option Fraction). IsBoundOrNone d (candidate_prices d prices budget loads steps (suc k)) (candidate_budget d budget loads steps (suc k)) b) (sym last.1) is))
      (At-push_cases bounds bound other j at);
}

module _ (d : Design) (prices : List ℕ) (budget : Option Budget) (loads : List ℕ) (k : ℕ) (climbed : Climbed) where
  best_taken : (new : Climbed) (bound : Option Fraction) → IsBestCandidate d prices budget loads k climbed
      → IsBoundOrNone d (candidate_prices d prices budget loads (steps_of climbed) (suc k)) (candidate_budget d budget loads (steps_of climbed) (suc k)) bound
      → IsGreaterBound bound climbed.bound
      → HasAsBest (candidate_prices d prices budget loads (steps_of climbed) (suc k)) (candidate_budget d budget loads (steps_of climbed) (suc k)) bound (suc k) new
      → steps_of new ≡ steps_of climbed → IsBestCandidate d prices budget loads (suc k) new
  best_taken new bound was is above has same =
      let long : length was.bounds ≡ suc k = omega (arith, was.are_bounds.long) in
      let first = greatest_taken was.bounds climbed.turn climbed.bound bound was.best above in
      record {
        bounds = was.bounds ++ bound ∷ [];
        are_bounds = subst (λ (ss : List (List (List Piece))). AreCandidateBounds d prices budget loads ss (suc k) (was.bounds ++ bound ∷ [])) (sym same)
            (bounds_more d prices budget loads (steps_of climbed) k was.bounds bound was.are_bounds is);
        best = subst (λ (b : Option Fraction). IsFirstGreatest (was.bounds ++ bound ∷ []) new.turn b) (sym has.bound_is)
            (subst (λ (j : ℕ). IsFirstGreatest (was.bounds ++ bound ∷ []) j bound) (long ∙ sym has.turn_is) first);
        best_prices = subst (λ (ss : List (List (List Piece))). new.prices.items ≡ candidate_prices d prices budget loads ss new.turn) (sym same)
            (subst (λ (j : ℕ). new.prices.items ≡ candidate_prices d prices budget loads (steps_of climbed) j) (sym has.turn_is) has.prices_are);
        best_budget = subst (λ (ss : List (List (List Piece))). new.budget ≡ candidate_budget d budget loads ss new.turn) (sym same)
            (subst (λ (j : ℕ). new.budget ≡ candidate_budget d budget loads (steps_of climbed) j) (sym has.turn_is) has.budget_is);
      }

  best_left : (bound : Option Fraction) → IsBestCandidate d prices budget loads k climbed
      → IsBoundOrNone d (candidate_prices d prices budget loads (steps_of climbed) (suc k)) (candidate_budget d budget loads (steps_of climbed) (suc k)) bound
      → ¬ IsGreaterBound bound climbed.bound → IsBestCandidate d prices budget loads (suc k) climbed
  best_left bound was is low = record {
    bounds = was.bounds ++ bound ∷ [];
    are_bounds = bounds_more d prices budget loads (steps_of climbed) k was.bounds bound was.are_bounds is;
    best = greatest_left was.bounds climbed.turn climbed.bound bound was.best low;
    best_prices = was.best_prices;
    best_budget = was.best_budget;
  }

  -- a candidate was offered
  pub best_offered : (s : ClimbSight) (new : Climbed) → s.design.now ≡ d → seen_prices s ≡ candidate_prices d prices budget loads (steps_of climbed) (suc k)
      → seen_budget s budget ≡ candidate_budget d budget loads (steps_of climbed) (suc k) → IsBestCandidate d prices budget loads k climbed
      → IsOffered s budget (suc k) climbed new → IsBestCandidate d prices budget loads (suc k) new
  best_offered s new on edges wirelength was o =
      let is : IsBoundOrNone d (candidate_prices d prices budget loads (steps_of climbed) (suc k)) (candidate_budget d budget loads (steps_of climbed) (suc k)) o.bound =
      subst (λ (b : Option Budget). IsBoundOrNone d (candidate_prices d prices budget loads (steps_of climbed) (suc k)) b o.bound) wirelength
      (subst (λ (ps : List ℕ). IsBoundOrNone d ps (seen_budget s budget) o.bound) edges (subst (λ (e : Design). IsBoundOrNone e (seen_prices s) (seen_budget s budget) o.bound) on o.is_bound)) in
      ⊎_elim
      (λ (above : IsGreaterBound o.bound climbed.bound).
      best_taken new o.bound was is above
      (subst (λ (b : Option Budget). HasAsBest (candidate_prices d prices budget loads (steps_of climbed) (suc k)) b o.bound (suc k) new) wirelength
      (subst (λ (ps : List ℕ). HasAsBest ps (seen_budget s budget) o.bound (suc k) new) edges (o.taken above)))
      (ap (λ v. map (λ trees. trees.items) v.items) o.steps))
      (λ (low : ¬ IsGreaterBound o.bound climbed.bound). subst (IsBestCandidate d prices budget loads (suc k)) (sym (o.left low)) (best_left o.bound was is low))
      (greater_or_not o.bound climbed.bound)

-- the best bound is one of the design
pub best_bounds : (d : Design) (budget : Option Budget) (turn : ℕ) (s : ClimbSight) (old new : Climbed) → s.design.now ≡ d → IsOffered s budget turn old new
    → IfSome old.bound (λ f. BoundsDesign d (most_of budget) f.num f.den) → IfSome new.bound (λ f. BoundsDesign d (most_of budget) f.num f.den)
best_bounds d budget turn s old new on o was =
    ⊎_elim
    (λ (above : IsGreaterBound o.bound old.bound).
    subst (λ (b : Option Fraction). IfSome b (λ f. BoundsDesign d (most_of budget) f.num f.den)) (sym (o.taken above).bound_is)
    (subst (λ (e : Design). IfSome o.bound (λ f. BoundsDesign e (most_of budget) f.num f.den)) on o.bounds))
    (λ (low : ¬ IsGreaterBound o.bound old.bound).
    subst (λ (c : Climbed). IfSome c.bound (λ f. BoundsDesign d (most_of budget) f.num f.den)) (sym (o.left low)) was)
    (greater_or_not o.bound old.bound)

-- the sets of one turn more don't change the best
pub best_pushed : (d : Design) (prices : List ℕ) (budget : Option Budget) (loads : List ℕ) (k : ℕ) (climbed new : Climbed) (trees : List (List Piece))
    → steps_of new ≡ steps_of climbed ++ trees ∷ [] → new.prices.items ≡ climbed.prices.items → new.budget ≡ climbed.budget → new.bound ≡ climbed.bound → new.turn ≡ climbed.turn
    → k ≤ length (steps_of climbed) + 1 → IsBestCandidate d prices budget loads k climbed → IsBestCandidate d prices budget loads k new
best_pushed d prices budget loads k climbed new trees pushed same_prices same_budget same_bound same_turn early was =
    let steps : List (List (List Piece)) = steps_of climbed in
    let among : climbed.turn ≤ length steps + 1 = omega (arith, slice_get_within was.bounds climbed.turn climbed.bound was.best.stands, was.are_bounds.long, early) in
    record {
      bounds = was.bounds;
      are_bounds = record {
        long = was.are_bounds.long;
        each = λ j bound at.
            let old : j ≤ length steps + 1 = omega (arith, slice_get_within was.bounds j bound at, was.are_bounds.long, early) in
            subst (λ (ss : List (List (List Piece))). IsBoundOrNone d (candidate_prices d prices budget loads ss j) (candidate_budget d budget loads ss j) bound) (sym pushed)
            (subst (λ (b : Option Budget). IsBoundOrNone d (candidate_prices d prices budget loads (steps ++ trees ∷ []) j) b bound) (sym (budget_before d budget loads steps trees j old))
            (subst (λ (ps : List ℕ). IsBoundOrNone d ps (candidate_budget d budget loads steps j) bound) (sym (prices_before d prices budget loads steps trees j old)) (was.are_bounds.each j bound at)));
      };
      best = subst (λ (j : ℕ). IsFirstGreatest was.bounds j new.bound) (sym same_turn) (subst (λ (b : Option Fraction). IsFirstGreatest was.bounds climbed.turn b) (sym same_bound) was.best);
      best_prices =
          same_prices ∙ was.best_prices ∙ sym (prices_before d prices budget loads steps trees climbed.turn among)
          ∙ ap (λ (ss : List (List (List Piece))). candidate_prices d prices budget loads ss climbed.turn) (sym pushed)
          ∙ ap (λ (j : ℕ). candidate_prices d prices budget loads (steps_of new) j) (sym same_turn);
      best_budget =
          same_budget ∙ was.best_budget ∙ sym (budget_before d budget loads steps trees climbed.turn among)
          ∙ ap (λ (ss : List (List (List Piece))). candidate_budget d budget loads ss climbed.turn) (sym pushed)
          ∙ ap (λ (j : ℕ). candidate_budget d budget loads (steps_of new) j) (sym same_turn);
    }
