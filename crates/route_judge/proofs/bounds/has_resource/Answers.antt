use Rattle.std.proofs.Common.{◌≡◌, ◌≢◌, ℕ, ◌<◌, false, Option, None, Some, sym, ◌∙◌, subst, ⊎_elim, arith}
use Rattle.std.specs.Option.{is_some, unwrap_or}
use Rattle.std.proofs.lemmas.Bool.{cases_eq}
use Rattle.grid_graph.specs.declared.grid.Grid.{Grid}
use Rattle.grid_graph.specs.Grids.{capacity, edge_numbers}
use Rattle.edge_prices.specs.declared.budget.Budget.{Budget}
use Rattle.edge_prices.specs.Budgets.{most_of}
use Rattle.dual_bound.proofs.Closed.{at_wirelength, at_edge}
use Rattle.route_judge.specs.Bounds.{HasResource}
use Rattle.route_judge.proofs.bounds.has_resource.Goals as goal

-- an open edge is a resource
edge_is_resource : (g : Grid) (budget : Option ℕ) (e : ℕ) → e < edge_numbers g → 0 < capacity g e → HasResource g budget
edge_is_resource g budget e inside some =
    let differs : e ≢ edge_numbers g = λ same. absurd (omega (arith, inside, same)) in
    (e, record { entry = omega (arith, inside); has_capacity = subst (λ n. 0 < n) (sym (at_edge g (unwrap_or budget 0) (capacity g e) e differs)) some })

-- and without a budget there is no other
resource_is_edge : (g : Grid) (budget : Option Budget) → is_some budget ≡ false → HasResource g (most_of budget) → (e : ℕ) × (e < edge_numbers g) × (0 < capacity g e)
resource_is_edge g None none resource =
    let r = resource.0 in
    ⊎_elim
    (λ (wire : r ≡ edge_numbers g). absurd (omega (arith, resource.1.has_capacity, at_wirelength g 0 (capacity g r) r wire)))
    (λ (differs : r ≡ edge_numbers g → ⊥). (r, omega (arith, resource.1.entry, differs), subst (λ n. 0 < n) (at_edge g 0 (capacity g r) r differs) resource.1.has_capacity))
    (cases_eq r (edge_numbers g))
resource_is_edge g (Some budget) none resource = absurd (cc none)

pub returns-else-is_some : goal.returns-else-is_some
returns-else-is_some c =
    let g = c.args.grid.now in
    let none : is_some c.args.budget ≡ false = sym c.is_some.ensures ∙ c.if-is_some.false in (
      λ told. let edge = c.has_open_edge.ensures.0 told in edge_is_resource g (most_of c.args.budget) edge.0 edge.1 edge.2,
      λ resource. c.has_open_edge.ensures.1 (resource_is_edge g c.args.budget none resource),
    )
