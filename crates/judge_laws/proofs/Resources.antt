-- Where all capacities cost something there is a resource.
use Rattle.std.proofs.Common.{◌≡◌, ℕ, ◌*◌, ◌<◌, ◌≤◌, List, [], ◌∷◌, Option, Contains, refl, sym, ◌∙◌, ap, ⊎_elim, arith}
use Rattle.std.specs.List.{sum_by, range_with_len}
use Rattle.std.proofs.lemmas.Bool.{cases_lt}
use Rattle.std.proofs.lemmas.List.FromFn.{length-range_with_len, get_or-range_with_len}
use Rattle.std.proofs.lemmas.List.Sums.{sum_by-cons}
use Rattle.grid_base.proofs.Lists.{Contains-rest}
use Rattle.grid_graph.specs.declared.grid.Grid.{Grid}
use Rattle.grid_graph.specs.Grids.{entries}
use Rattle.edge_prices.specs.Vectors.{capacity_of}
use Rattle.edge_prices.specs.declared.budget.Budget.{Budget}
use Rattle.edge_prices.specs.Budgets.{most_of}
use Rattle.dual_bound.specs.Prices.{price_at, capacity_cost}
use Rattle.route_judge.specs.Bounds.{HasResource}

-- a sum that isn't 0 has a term that isn't
positive_term : (f : ℕ → ℕ) (rs : List ℕ) → 0 < sum_by f rs → (r : ℕ) × Contains rs r × (0 < f r)
positive_term f [] positive = absurd (omega (arith, positive))
positive_term f (r ∷ rs) positive =
    ⊎_elim
    (λ (here : 0 < f r). (r, (0, omega arith, refl), here))
    (λ (none : f r ≤ 0).
    let rest = positive_term f rs (omega (arith, positive, none, sum_by-cons f r rs)) in
    (rest.0, Contains-rest r rs rest.0 rest.1, rest.2))
    (cases_lt 0 (f r))

in_range : (count r : ℕ) → Contains (range_with_len 0 count) r → r < count
in_range count r held =
    let within : held.0 < count = omega (arith, held.1, length-range_with_len 0 count) in
    omega (arith, within, sym held.2 ∙ get_or-range_with_len 0 count held.0 r within)

factor_positive : (price capacity : ℕ) → 0 < price * capacity → 0 < capacity
factor_positive price capacity positive =
    ⊎_elim
    (λ (some : 0 < capacity). some)
    (λ (none : capacity ≤ 0). let zero_of : capacity ≡ 0 = omega (arith, none) in absurd (omega (arith, positive, ap (λ (c : ℕ). price * c) zero_of)))
    (cases_lt 0 capacity)

pub costly_has_resource : (g : Grid) (prices : List ℕ) (budget : Option Budget) → 0 < capacity_cost g prices budget → HasResource g (most_of budget)
costly_has_resource g prices budget positive =
    let term = positive_term (λ r. price_at g prices budget r * capacity_of g (most_of budget) r) (range_with_len 0 (entries g)) positive in (
      term.0,
      record {
        entry = in_range (entries g) term.0 term.1;
        has_capacity = factor_positive (price_at g prices budget term.0) (capacity_of g (most_of budget) term.0) term.2;
      },
    )
