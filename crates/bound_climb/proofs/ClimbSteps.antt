-- The steps of a climb, with those of one turn more.
use Rattle.std.proofs.Common.{◌≡◌, ℕ, zero, suc, ◌+◌, ◌≤◌, List, [], ◌∷◌, ◌++◌, length, map, take, Option, refl, sym, ap, subst, ⊎_elim, arith}
use Rattle.std.specs.Prelude.{slice_index}
use Rattle.std.specs.List.{range_with_len}
use Rattle.std.proofs.lemmas.List.{length_push, take-append-le}
use Rattle.std.proofs.lemmas.Option.{slice_get_within}
use Rattle.grid_base.specs.declared.piece.Piece.{Piece}
use Rattle.grid_base.proofs.Lists.{At-push_cases}
use Rattle.grid_graph.specs.declared.design.Design.{Design}
use Rattle.grid_graph.specs.Grids.{edge_numbers, entries}
use Rattle.edge_prices.specs.declared.budget.Budget.{Budget}
use Rattle.edge_prices.specs.Budgets.{most_of}
use Rattle.edge_prices.specs.Vectors.{price_vector}
use Rattle.routing_stages.specs.Phases.{phases_load}
use Rattle.bound_climb.specs.Climbs.{climb_loads, climb_vector, candidate_prices, candidate_budget, with_price_of, AreSteps, AreClimbSteps}

-- the loads after the turns before it don't depend on a later turn
pub loads_before : (d : Design) (loads : List ℕ) (steps : List (List (List Piece))) (trees : List (List Piece)) (turns : ℕ) → turns ≤ length steps
    → climb_loads d loads (steps ++ trees ∷ []) turns ≡ climb_loads d loads steps turns
loads_before d loads steps trees turns early =
    ap (λ (ss : List (List (List Piece))). map (λ r. slice_index loads r + phases_load d.grid d.nets ss r) (range_with_len 0 (entries d.grid)))
    (take-append-le turns steps (trees ∷ []) early)

vector_before : (d : Design) (most : Option ℕ) (loads : List ℕ) (steps : List (List (List Piece))) (trees : List (List Piece)) (turns : ℕ) → turns ≤ length steps
    → climb_vector d most loads (steps ++ trees ∷ []) turns ≡ climb_vector d most loads steps turns
vector_before d most loads steps trees turns early = ap (λ (ls : List ℕ). price_vector d.grid ls 1 most) (loads_before d loads steps trees turns early)

-- and neither do the candidates
pub prices_before : (d : Design) (prices : List ℕ) (budget : Option Budget) (loads : List ℕ) (steps : List (List (List Piece))) (trees : List (List Piece)) (k : ℕ) → k ≤ length steps + 1
    → candidate_prices d prices budget loads (steps ++ trees ∷ []) k ≡ candidate_prices d prices budget loads steps k
prices_before d prices budget loads steps trees zero early = refl
prices_before d prices budget loads steps trees (suc before) early =
    ap (λ (vector : List ℕ). take (edge_numbers d.grid) vector) (vector_before d (most_of budget) loads steps trees before (omega (arith, early)))

pub budget_before : (d : Design) (budget : Option Budget) (loads : List ℕ) (steps : List (List (List Piece))) (trees : List (List Piece)) (k : ℕ) → k ≤ length steps + 1
    → candidate_budget d budget loads (steps ++ trees ∷ []) k ≡ candidate_budget d budget loads steps k
budget_before d budget loads steps trees zero early = refl
budget_before d budget loads steps trees (suc before) early =
    ap (λ (vector : List ℕ). with_price_of d.grid vector budget) (vector_before d (most_of budget) loads steps trees before (omega (arith, early)))

pub no_steps : (d : Design) (most : Option ℕ) (loads : List ℕ) → AreClimbSteps d most loads 1 []
no_steps d most loads = record {
  long = refl;
  each = λ turn trees at. absurd (omega (arith, slice_get_within [] turn trees at));
}

-- the sets of one turn more
pub more_steps : (d : Design) (most : Option ℕ) (loads : List ℕ) (turns : ℕ) (steps : List (List (List Piece))) (trees : List (List Piece)) → AreClimbSteps d most loads turns steps
    → AreSteps d most (climb_loads d loads steps (length steps)) trees → AreClimbSteps d most loads (turns + 1) (steps ++ trees ∷ [])
more_steps d most loads turns steps trees was new = record {
  long = omega (arith, length_push steps trees, was.long);
  each = λ turn sets at. ⊎_elim
      (λ old. subst (λ (ls : List ℕ). AreSteps d most ls sets) (sym (loads_before d loads steps trees turn (omega (arith, slice_get_within steps turn sets old)))) (was.each turn sets old))
      (λ last. subst (λ (ls : List ℕ). AreSteps d most ls sets) (sym (loads_before d loads steps trees turn (omega (arith, last.0))))
      (subst (λ (k : ℕ). AreSteps d most (climb_loads d loads steps k) sets) (sym last.0) (subst (AreSteps d most (climb_loads d loads steps (length steps))) (sym last.1) new)))
      (At-push_cases steps trees sets turn at);
}
