use Rattle.std.proofs.Common.{ℕ, ◌<◌, slice_index, List, length, ap, sym, subst, set, ◌∙◌, arith, length-set, get_or-set_other}
use Rattle.std.proofs.lemmas.List.{get_or_read, with_items_is}
use Rattle.grid_graph.specs.Grids.{size_of, entries}
use Rattle.edge_prices.specs.Prices.{index_or_zero, price_or_zero}
use Rattle.edge_prices.specs.TilePrices.{AreTilePrices}
use Rattle.edge_prices.specs.Vectors.{capacity_of, index_of}
use Rattle.edge_prices.specs.Weights.{ArePrices}
use Rattle.edge_prices.proofs.KeptSteps.{AreLeast-set, IsCurrent-set, IsLoadList-set, KeepsGreatest-by, top-set, vector-set}
use Rattle.edge_prices.proofs.PriceVectors.{price_vector-ArePrices}
use Rattle.edge_prices.proofs.TopIndices.{tied-counts, tied-limit}
use Rattle.edge_prices.proofs.kept_prices.KeptPrices.set_load.Goals as goal

pub after_change-requires-clause-counted : goal.after_change-requires-clause-counted
after_change-requires-clause-counted c =
    let s = c.args.self.now in
    let g = s.resources.grid.now in
    let r = c.args.entry in
    let within : r < length s.loads.items = omega (arith, s.kept.loaded.long) in
    tied-counts (index_of g s.loads.items s.resources.scale s.resources.budget) (entries g) r c.index-before.result s.top (s.kept.fresh c.if-self.false).greatest c.requires.entry
    (c.index-before.ensures ∙ ap (λ x. index_or_zero (capacity_of g s.resources.budget r) x s.resources.scale) (get_or_read s.loads.items r c.index-old.result.now within c.index-old.ensures 0))

pub after_change-requires-clause-room : goal.after_change-requires-clause-room
after_change-requires-clause-room c =
    let s = c.args.self.now in
    let g = s.resources.grid.now in
    omega (arith, (size_of g).within.vertex_limit, tied-limit (index_of g s.loads.items s.resources.scale s.resources.budget) (entries g) s.top (s.kept.fresh c.if-self.false).greatest)

pub write_tile_price-requires-clause-prices : goal.write_tile_price-requires-clause-prices
write_tile_price-requires-clause-prices c =
    let s = c.args.self.now in
    let g = s.resources.grid.now in
    let scale = s.resources.scale in
    let budget = s.resources.budget in
    let loads = s.loads.items in
    let r = c.args.entry in
    let load = c.args.load in
    let price = c.price-price.result in
    let current = s.kept.fresh c.if-self.false in
    let changed = c.in-Some.ensures in
    let top = top-set g loads scale budget r load c.index-old.result.now c.index-before.result c.index-after.result s.top _ s.kept.loaded c.requires.entry current.greatest
    c.index-old.ensures c.index-before.ensures c.index-after.ensures changed in
    let keeps = KeepsGreatest-by g loads scale budget r load _ _ s.top _ c.requires.entry current.greatest top changed in
    let vector = vector-set g loads scale budget s.prices.items _ r load price s.kept.loaded current.vector (top.index ∙ keeps.stays) keeps (c.price-price.ensures ∙ ap (price_or_zero (capacity_of g budget r) c.in-Some.top.index) c.index-after.ensures) in
    subst (ArePrices g) (sym (c.as_slice.ensures.value ∙ vector)) (price_vector-ArePrices g (set loads r load) scale budget)

pub invariant_of-self-2 : goal.invariant_of-self-2
invariant_of-self-2 c =
    let s = c.args.self.now in
    let g = s.resources.grid.now in
    let scale = s.resources.scale in
    let budget = s.resources.budget in
    let loads = s.loads.items in
    let r = c.args.entry in
    let load = c.args.load in
    let price = c.price-price.result in
    let current = s.kept.fresh c.if-self.false in
    let changed = c.in-Some.ensures in
    let top = top-set g loads scale budget r load c.index-old.result.now c.index-before.result c.index-after.result s.top _ s.kept.loaded c.requires.entry current.greatest
    c.index-old.ensures c.index-before.ensures c.index-after.ensures changed in
    let keeps = KeepsGreatest-by g loads scale budget r load _ _ s.top _ c.requires.entry current.greatest top changed in
    let lowest = AreLeast-set g budget s.prices.items s.least c.with_entry-self.result r price _ (index_or_zero (capacity_of g budget r) load scale)
    (omega (arith, s.kept.long)) current.lowest (c.price-price.ensures ∙ ap (price_or_zero (capacity_of g budget r) c.in-Some.top.index) c.index-after.ensures)
    (λ edge some. c.with_entry-self.ensures.edge (omega (arith, c.edges.ensures)) some) c.with_entry-self.ensures.others in
    let written = with_items_is s.tile_prices c.write_tile_price.new.out (c.write_tile_price.auto.out ∙ c.as_mut_slice.ensures.len) in
    let tiled : AreTilePrices g (set s.prices.items r price) c.write_tile_price.new.out =
    subst (λ (prices : List ℕ). AreTilePrices g prices c.write_tile_price.new.out) c.as_slice.ensures.value
    (c.write_tile_price.ensures s.prices.items (subst (AreTilePrices g s.prices.items) (sym c.as_mut_slice.ensures.value) current.tiled)
    (λ k other. ap (λ (prices : List ℕ). slice_index prices k) c.as_slice.ensures.value ∙ get_or-set_other s.prices.items r k price 0 other)) in
    record {
      kept = record {
        loaded = IsLoadList-set g loads r load s.kept.loaded c.requires.load;
        long = length-set s.prices.items r price ∙ s.kept.long;
        wide = ap (λ (over : List ℕ). length over) written ∙ tiled.long;
        fresh = λ _. IsCurrent-set g loads scale budget s.prices.items s.top _ s.least c.with_entry-self.result s.tile_prices.items _ r load price s.kept.loaded current top keeps (c.price-price.ensures ∙ ap (price_or_zero (capacity_of g budget r) c.in-Some.top.index) c.index-after.ensures) lowest
            (subst (AreTilePrices g (set s.prices.items r price)) (sym written) tiled);
      };
    }
