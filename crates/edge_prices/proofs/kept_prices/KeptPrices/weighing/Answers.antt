use Rattle.std.proofs.Common.{ℕ, Bor, List, ◌≡◌, sym, subst, ◌∙◌}
use Rattle.grid_graph.specs.declared.grid.Grid.{Grid}
use Rattle.edge_prices.specs.Demands.{AreAllPriced}
use Rattle.edge_prices.specs.TilePrices.{AreTilePrices}
use Rattle.edge_prices.specs.Weights.{ArePrices, piece_weight}
use Rattle.edge_prices.proofs.GroundPieces.{AreGroundPieces-same}
use Rattle.edge_prices.proofs.PriceVectors.{price_vector-ArePrices, price_vector-AreAllPriced}
use Rattle.edge_prices.proofs.kept_prices.KeptPrices.weighing.Goals as goal

pub new-net-requires-clause-prices : goal.new-net-requires-clause-prices
new-net-requires-clause-prices c =
    let s = c.args.self.now in
    let r = s.resources in
    subst (ArePrices r.grid.now) (sym (c.as_slice.ensures.value ∙ (s.kept.fresh c.requires.renewed).vector)) (price_vector-ArePrices r.grid.now s.loads.items r.scale r.budget)

pub new-net-requires-clause-all_priced : goal.new-net-requires-clause-all_priced
new-net-requires-clause-all_priced c _ =
    let s = c.args.self.now in
    let r = s.resources in
    subst (AreAllPriced r.grid.now) (sym (c.as_slice.ensures.value ∙ (s.kept.fresh c.requires.renewed).vector)) (price_vector-AreAllPriced r.grid.now s.loads.items r.scale r.budget)

pub returns-clause-pieces : goal.returns-clause-pieces
returns-clause-pieces c =
    let net = c.new-net.result in
    let made = c.new-net.ensures in
    AreGroundPieces-same piece_weight net.grid.now _ net.ground _ net.width _ net.prices.now _ _ made.grid made.ground made.width
    (made.prices ∙ c.as_slice.ensures.value ∙ (c.args.self.now.kept.fresh c.requires.renewed).vector) c.at.ensures.pieces

pub at-requires-clause-tile_prices : goal.at-requires-clause-tile_prices
at-requires-clause-tile_prices c x found =
    let s = c.args.self.now in
    let made = c.new-net.ensures in
    let current = s.kept.fresh c.requires.renewed in
    let is : c.as_slice-2.result ≡ x = cc in
    subst (λ (over : Bor (List ℕ)). AreTilePrices c.new-net.result.grid.now c.new-net.result.prices.now over.now) is
    (subst (λ (over : List ℕ). AreTilePrices c.new-net.result.grid.now c.new-net.result.prices.now over) (sym c.as_slice-2.ensures.value)
    (subst (λ (prices : List ℕ). AreTilePrices c.new-net.result.grid.now prices s.tile_prices.items) (sym (made.prices ∙ c.as_slice.ensures.value))
    (subst (λ (g : Grid). AreTilePrices g s.prices.items s.tile_prices.items) (sym made.grid) current.tiled)))
