use Rattle.std.proofs.Common.{◌≡◌, ap, sym, subst, ◌∙◌}
use Rattle.std.proofs.lemmas.List.{with_items_is}
use Rattle.edge_prices.specs.Demands.{AreAllPriced}
use Rattle.edge_prices.specs.Vectors.{price_vector}
use Rattle.edge_prices.specs.Weights.{ArePrices}
use Rattle.edge_prices.proofs.PriceVectors.{price_vector-ArePrices, price_vector-AreAllPriced}
use Rattle.edge_prices.proofs.kept_prices.KeptPrices.renew.Goals as goal

pub least_prices_of-self-requires-clause-prices : goal.least_prices_of-self-requires-clause-prices
least_prices_of-self-requires-clause-prices c =
    let s = c.args.self.now in
    let r = s.resources in
    let written : c.as_slice-3.result.now ≡ price_vector r.grid.now s.loads.items r.scale r.budget =
    c.as_slice-3.ensures.value ∙ with_items_is s.prices c.write_prices.new.out (c.write_prices.auto.out ∙ c.as_mut_slice.ensures.len) ∙ c.write_prices.ensures ∙ ap (λ loads. price_vector r.grid.now loads r.scale r.budget) c.as_slice-2.ensures.value in
    subst (ArePrices r.grid.now) (sym written) (price_vector-ArePrices r.grid.now s.loads.items r.scale r.budget)

pub least_prices_of-self-requires-clause-all_priced : goal.least_prices_of-self-requires-clause-all_priced
least_prices_of-self-requires-clause-all_priced c =
    let s = c.args.self.now in
    let r = s.resources in
    let written : c.as_slice-3.result.now ≡ price_vector r.grid.now s.loads.items r.scale r.budget =
    c.as_slice-3.ensures.value ∙ with_items_is s.prices c.write_prices.new.out (c.write_prices.auto.out ∙ c.as_mut_slice.ensures.len) ∙ c.write_prices.ensures ∙ ap (λ loads. price_vector r.grid.now loads r.scale r.budget) c.as_slice-2.ensures.value in
    subst (AreAllPriced r.grid.now) (sym written) (price_vector-AreAllPriced r.grid.now s.loads.items r.scale r.budget)

pub write_tile_prices-requires-clause-prices : goal.write_tile_prices-requires-clause-prices
write_tile_prices-requires-clause-prices c =
    let s = c.args.self.now in
    let r = s.resources in
    let written : c.as_slice-4.result.now ≡ price_vector r.grid.now s.loads.items r.scale r.budget =
    c.as_slice-4.ensures.value ∙ with_items_is s.prices c.write_prices.new.out (c.write_prices.auto.out ∙ c.as_mut_slice.ensures.len) ∙ c.write_prices.ensures ∙ ap (λ loads. price_vector r.grid.now loads r.scale r.budget) c.as_slice-2.ensures.value in
    subst (ArePrices r.grid.now) (sym written) (price_vector-ArePrices r.grid.now s.loads.items r.scale r.budget)
