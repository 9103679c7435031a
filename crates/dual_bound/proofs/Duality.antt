-- Weak duality.
use Rattle.std.proofs.Common.{◌≡◌, ℕ, ◌+◌, ◌*◌, ◌<◌, ◌≤◌, ◌==◌, Bool, true, false, cond, Option, List, [], ◌∷◌, length, All, refl, ◌∙◌, ap, ⊎_elim, arith, sum}
use Rattle.std.specs.List.{AllZip, range_with_len, zip}
use Rattle.std.proofs.Math.Nat.{mul-le-mul_left}
use Rattle.std.proofs.lemmas.List.Elements.{All-head, All-tail}
use Rattle.std.proofs.lemmas.List.Sums.{sum_by-cons}
use Rattle.grid_base.specs.declared.piece.Piece.{Piece}
use Rattle.grid_graph.specs.declared.design.Design.{Design}
use Rattle.grid_graph.specs.declared.grid.Grid.{Grid}
use Rattle.grid_graph.specs.declared.net_spec.NetSpec.{NetSpec}
use Rattle.grid_graph.specs.Grids.{edge_numbers, entries}
use Rattle.edge_prices.specs.Vectors.{capacity_of}
use Rattle.edge_prices.specs.declared.budget.Budget.{Budget}
use Rattle.edge_prices.specs.Budgets.{most_of}
use Rattle.tree_set.specs.Loads.{tree_load, load_on, net_load, load}
use Rattle.tree_set.specs.Measures.{wirelength}
use Rattle.tree_set.specs.Routings.{IsRouting}
use Rattle.dual_bound.specs.Bounds.{IsResource, mixture_load, BoundsDesign}
use Rattle.dual_bound.specs.DesignBounds.{IsAtMostEachRoute}
use Rattle.dual_bound.specs.Prices.{ArePricesWith, price_at, capacity_cost}
use Rattle.dual_bound.proofs.Closed.{price_of_no_resource}
use Rattle.dual_bound.proofs.LoadCosts.{priced, priced-add, priced-times, full_or_less, CostsLess}

sum-cons : (x : ℕ) (xs : List ℕ) → sum (x ∷ xs) ≡ x + sum xs
sum-cons x xs = sum_by-cons (λ y. y) x xs

by_cases : (b : Bool) (one other two more : ℕ) → cond b (one + other) (two + more) ≡ cond b one two + cond b other more
by_cases true one other two more = refl
by_cases false one other two more = refl

-- the load of one net more
one_net_more : (g : Grid) (n : NetSpec) (nets : List NetSpec) (tree : List Piece) (trees : List (List Piece)) (r : ℕ)
    → load_on g (n ∷ nets) (tree ∷ trees) r ≡ tree_load g n.width tree r + load_on g nets trees r
one_net_more g n nets tree trees r =
    let wire : wirelength (tree ∷ trees) ≡ length tree + wirelength trees = sum_by-cons length tree trees in
    let edges : load g (n ∷ nets) (tree ∷ trees) r ≡ net_load g n.width tree r + load g nets trees r = sum_by-cons (λ x. net_load g x.0.width x.1 r) (n, tree) (zip nets trees) in
    ap (λ x. cond (r == edge_numbers g) x (load g (n ∷ nets) (tree ∷ trees) r)) wire
    ∙ ap (λ x. cond (r == edge_numbers g) (length tree + wirelength trees) x) edges
    ∙ by_cases (r == edge_numbers g) (length tree) (wirelength trees) (net_load g n.width tree r) (load g nets trees r)

-- a routing costs at least what all its routes cost at least
pub routing_cost : (g : Grid) (prices : List ℕ) (budget : Option Budget) (nets : List NetSpec) (trees : List (List Piece)) (lows : List ℕ)
    → IsRouting g nets trees → AllZip (IsAtMostEachRoute g prices budget) nets lows
    → sum lows ≤ priced (price_at g prices budget) (load_on g nets trees) (range_with_len 0 (entries g))
routing_cost g prices budget [] trees [] routes low = omega arith
routing_cost g prices budget [] trees (l ∷ lows) routes low = absurd low
routing_cost g prices budget (n ∷ nets) [] lows routes low = absurd routes
routing_cost g prices budget (n ∷ nets) (t ∷ trees) [] routes low = absurd low
routing_cost g prices budget (n ∷ nets) (t ∷ trees) (l ∷ lows) routes low =
    let both = priced-add (price_at g prices budget) (tree_load g n.width t) (load_on g nets trees) (load_on g (n ∷ nets) (t ∷ trees)) (range_with_len 0 (entries g)) (one_net_more g n nets t trees) in
    omega (arith, both, sum-cons l lows, low.0 t routes.0, routing_cost g prices budget nets trees lows routes.1 low.1)

-- and a mixture that for each of its routings
mixture_cost : (d : Design) (prices : List ℕ) (budget : Option Budget) (lows : List ℕ) (routings : List (List (List Piece)))
    → All (IsRouting d.grid d.nets) routings → AllZip (IsAtMostEachRoute d.grid prices budget) d.nets lows
    → length routings * sum lows ≤ priced (price_at d.grid prices budget) (mixture_load d.grid d.nets routings) (range_with_len 0 (entries d.grid))
mixture_cost d prices budget lows [] each low = omega arith
mixture_cost d prices budget lows (trees ∷ routings) each low =
    let one = routing_cost d.grid prices budget d.nets trees lows (All-head (IsRouting d.grid d.nets) trees routings each) low in
    let others = mixture_cost d prices budget lows routings (All-tail (IsRouting d.grid d.nets) trees routings each) low in
    let both = priced-add (price_at d.grid prices budget) (load_on d.grid d.nets trees) (mixture_load d.grid d.nets routings) (mixture_load d.grid d.nets (trees ∷ routings))
    (range_with_len 0 (entries d.grid)) (λ r. sum_by-cons (λ ts. load_on d.grid d.nets ts r) trees routings) in
    omega (arith, one, others, both)

-- where every resource had less, the whole would cost too little
not_less : (a b m total cost load_total : ℕ) → m * total ≤ load_total → a * cost ≤ total * b → b * load_total < a * m * cost → ⊥
not_less a b m total cost load_total each bound less =
    let scaled : b * (m * total) ≤ b * load_total = mul-le-mul_left b each in
    let bounds : m * (a * cost) ≤ m * (total * b) = mul-le-mul_left m bound in
    omega (arith, scaled, bounds, less)

pub duality : (d : Design) (prices : List ℕ) (budget : Option Budget) (lows : List ℕ) (a b : ℕ)
    → ArePricesWith d.grid prices budget → 0 < capacity_cost d.grid prices budget → AllZip (IsAtMostEachRoute d.grid prices budget) d.nets lows
    → 1 ≤ b → a * capacity_cost d.grid prices budget ≤ sum lows * b → BoundsDesign d (most_of budget) a b
duality d prices budget lows a b priced_at some low positive bound = record {
  positive = positive;
  every = λ routings mixture.
      let g = d.grid in
      let price = price_at g prices budget in
      let capacity = capacity_of g (most_of budget) in
      let loads = mixture_load g d.nets routings in
      let rs = range_with_len 0 (entries g) in
      let m = length routings in
      ⊎_elim
      (λ found. (
        found.0,
        record {
          resource = record { entry = omega (arith, found.1.inside); has_capacity = found.1.has_capacity };
          used = found.1.full;
        },
      ))
      (λ (less : CostsLess price capacity (λ r. b * loads r) (λ r. a * m * capacity r) rs). absurd (not_less a b m (sum lows) (capacity_cost g prices budget) (priced price loads rs)
      (mixture_cost d prices budget lows routings mixture.each low) bound
      (omega (arith, less.less some, priced-times price loads b rs, priced-times price capacity (a * m) rs))))
      (full_or_less price capacity (λ r. b * loads r) (λ r. a * m * capacity r) (entries g) 0 (λ r inside none. price_of_no_resource g prices budget r priced_at (omega (arith, inside)) none));
}

-- 0 bounds a design that has a resource
pub nothing_bounds : (d : Design) (budget : Option ℕ) (r b : ℕ) → IsResource d.grid budget r → 1 ≤ b → BoundsDesign d budget 0 b
nothing_bounds d budget r b resource positive = record {
  positive = positive;
  every = λ routings mixture. (r, record { resource = resource; used = omega arith });
}
