-- A budget whose wirelength costs nothing changes neither what nets nor what capacities cost.
use Rattle.std.proofs.Common.{◌≡◌, ◌≢◌, ℕ, ◌<◌, List, Option, None, Some, unwrap_or, refl, sym, ◌∙◌, subst, ⊎_elim, arith}
use Rattle.std.proofs.lemmas.Bool.{cases_eq}
use Rattle.rayon.proofs.ListFacts.{AllZip-weaken}
use Rattle.grid_graph.specs.declared.design.Design.{Design}
use Rattle.grid_graph.specs.declared.grid.Grid.{Grid}
use Rattle.grid_graph.specs.declared.net_spec.NetSpec.{NetSpec}
use Rattle.grid_graph.specs.Grids.{capacity, edge_numbers}
use Rattle.edge_prices.specs.Vectors.{capacity_of}
use Rattle.fractions.specs.declared.fraction.Fraction.{Fraction}
use Rattle.fractions.specs.Fractions.{IsRatio}
use Rattle.dual_bound.specs.Bounds.{BoundsDesign}
use Rattle.dual_bound.specs.DesignBounds.{IsBoundOfNet, IsBoundOrNone, IsSumOfBounds}
use Rattle.dual_bound.specs.Prices.{capacity_cost, free_budget}
use Rattle.dual_bound.proofs.CapacityCosts.{capacity_cost-parts}
use Rattle.dual_bound.proofs.Closed.{at_edge, at_wirelength}

pub capacity_cost-free : (g : Grid) (prices : List ℕ) (most : Option ℕ) → capacity_cost g prices (free_budget most) ≡ capacity_cost g prices None
capacity_cost-free g prices None = refl
capacity_cost-free g prices (Some m) = omega (arith, capacity_cost-parts g prices (free_budget (Some m)), capacity_cost-parts g prices None)

net_bound-free : (g : Grid) (prices : List ℕ) (most : Option ℕ) (n : NetSpec) (bound : ℕ) → IsBoundOfNet g prices None n bound → IsBoundOfNet g prices (free_budget most) n bound
net_bound-free g prices None n bound is = is
net_bound-free g prices (Some m) n bound is = record { over = is.over; is_ground = is.is_ground; is_bound = is.is_bound }

sum-free : (g : Grid) (prices : List ℕ) (most : Option ℕ) (nets : List NetSpec) (total : ℕ) → IsSumOfBounds g prices None nets total → IsSumOfBounds g prices (free_budget most) nets total
sum-free g prices most nets total is = record {
  bounds = is.bounds;
  each = AllZip-weaken (IsBoundOfNet g prices None) (IsBoundOfNet g prices (free_budget most)) (net_bound-free g prices most) nets is.bounds is.each;
  sums = is.sums;
}

-- so the bound is one for all such budgets
pub no_bound-free : (d : Design) (prices : List ℕ) (most : Option ℕ) → capacity_cost d.grid prices None ≡ 0 → IsBoundOrNone d prices (free_budget most) None
no_bound-free d prices most none = capacity_cost-free d.grid prices most ∙ none

pub bound-free : (d : Design) (prices : List ℕ) (most : Option ℕ) (total : ℕ) (f : Fraction) → 0 < capacity_cost d.grid prices None
    → IsSumOfBounds d.grid prices None d.nets total → IsRatio total (capacity_cost d.grid prices None) f → IsBoundOrNone d prices (free_budget most) (Some f)
bound-free d prices most total f some is ratio =
    let same = capacity_cost-free d.grid prices most in
    record {
      exists = omega (arith, same, some);
      total = total;
      is_total = sum-free d.grid prices most d.nets total is;
      ratio = subst (λ (cost : ℕ). IsRatio total cost f) (sym same) ratio;
    }

-- a budget is a resource more: what has a capacity without it has the same with it
capacity_of-free : (g : Grid) (most : Option ℕ) (r : ℕ) → 0 < capacity_of g None r → capacity_of g most r ≡ capacity_of g None r
capacity_of-free g most r some = ⊎_elim
    (λ (is : r ≡ edge_numbers g). absurd (omega (arith, some, at_wirelength g 0 (capacity g r) r is)))
    (λ (differs : r ≢ edge_numbers g). at_edge g (unwrap_or most 0) (capacity g r) r differs ∙ sym (at_edge g 0 (capacity g r) r differs))
    (cases_eq r (edge_numbers g))

pub bounds-free : (d : Design) (most : Option ℕ) (a b : ℕ) → BoundsDesign d None a b → BoundsDesign d most a b
bounds-free d most a b bounds = record {
  positive = bounds.positive;
  every = λ routings mixture.
      let found = bounds.every routings mixture in
      let is = found.1 in
      let same = capacity_of-free d.grid most found.0 is.resource.has_capacity in (
        found.0,
        record {
          resource = record { entry = is.resource.entry; has_capacity = omega (arith, same, is.resource.has_capacity) };
          used = rw same is.used;
        },
      );
}
