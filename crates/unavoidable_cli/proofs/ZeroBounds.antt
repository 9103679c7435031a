-- Where routes have a peak there is an open edge, so 0 bounds a design.
use Rattle.std.proofs.Common.{◌≡◌, ◌≢◌, ◌*◌, ◌<◌, ℕ, Some, None, Option, true, ltb, refl, sym, subst, ⊎_elim, arith}
use Rattle.std.proofs.lemmas.Bool.{cases_eq, lt-ltb}
use Rattle.dual_bound.proofs.Closed.{at_edge, at_wirelength}
use Rattle.fractions.specs.declared.fraction.Fraction.{Fraction}
use Rattle.grid_graph.specs.declared.grid.Grid.{Grid}
use Rattle.grid_graph.specs.declared.kind.Kind.TheVariants.{Open}
use Rattle.grid_graph.specs.Grids.{capacity, edge_numbers, kind}
use Rattle.judge_laws.specs.RoutesAlone.{IsBoundWithoutPrices}
use Rattle.route_judge.specs.Bounds.{HasResource}
use Rattle.tree_set.specs.Measures.{IsPeak}
use Rattle.tree_set.proofs.Fullest.{IsEdgeNumber-open, capacity-open}

-- an open edge is a resource
open_resource : (g : Grid) (e : ℕ) → kind g e ≡ Open → HasResource g None
open_resource g e is =
    let inside : e < edge_numbers g = IsEdgeNumber-open g e is in
    let differs : e ≢ edge_numbers g = λ same. absurd (omega (arith, inside, same)) in
    (e, record { entry = omega (arith, inside); has_capacity = subst (λ (n : ℕ). 0 < n) (sym (at_edge g 0 (capacity g e) e differs)) (capacity-open g e is) })

-- and without a budget there is no other
no_resource : (g : Grid) → ((e : ℕ) → kind g e ≢ Open) → ¬ HasResource g None
no_resource g shut = λ resource.
    let r = resource.0 in
    ⊎_elim
    (λ (wire : r ≡ edge_numbers g). omega (arith, resource.1.has_capacity, at_wirelength g 0 (capacity g r) r wire))
    (λ (differs : r ≡ edge_numbers g → ⊥).
    let some : 0 < capacity g r = subst (λ (n : ℕ). 0 < n) (at_edge g 0 (capacity g r) r differs) resource.1.has_capacity in
    let is : ltb 0 (capacity g r) ≡ true = lt-ltb 0 (capacity g r) some in
    shut r (rw is refl))
    (cases_eq r (edge_numbers g))

-- no bound beside no peak, and 0 beside another
pub none_beside : (g : Grid) (load : ℕ → ℕ) → IsPeak g load None → IsBoundWithoutPrices g None
none_beside g load is = no_resource g is

pub zero_beside : (g : Grid) (load : ℕ → ℕ) (peak bound : Fraction) → bound.num * 1 ≡ 0 * bound.den → IsPeak g load (Some peak) → IsBoundWithoutPrices g (Some bound)
zero_beside g load peak bound none is = (open_resource g is.edge is.is_open, omega (arith, none))
