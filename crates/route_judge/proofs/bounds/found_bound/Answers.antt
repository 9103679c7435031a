use Rattle.std.proofs.Common.{◌≡◌, List, ℕ, sym, ◌∙◌, ap, subst}
use Rattle.edge_prices.specs.Weights.{AreEdgePrices}
use Rattle.route_judge.specs.Counts.{listed_prices}
use Rattle.route_judge.proofs.OpenEdges.{listed_are_prices}
use Rattle.route_judge.proofs.bounds.found_bound.Goals as goal

-- the prices by either name of the list
named : (xs ys : List ℕ) (prices listed : List ℕ) (of : List ℕ → List ℕ) → xs ≡ ys → ys ≡ of prices → prices ≡ listed → xs ≡ of listed
named xs ys prices listed of first second third = first ∙ second ∙ ap of third

pub bound-requires-clause-prices : goal.bound-requires-clause-prices
bound-requires-clause-prices g c κs within =
    let grid = c.args.design.now.grid in
    let is : c.as_slice.result.now ≡ listed_prices grid c.args.cert.now.prices =
    named c.as_slice.result.now c.in_ok-prices.prices.items c.list.result.now c.args.cert.now.prices (listed_prices grid) c.as_slice.ensures.value c.in_ok-prices.ensures c.list.ensures in
    record {
      edges = subst (AreEdgePrices grid) (sym is) (listed_are_prices grid c.args.cert.now.prices c.requires.prices);
      wirelength = c.requires.budget;
    }
