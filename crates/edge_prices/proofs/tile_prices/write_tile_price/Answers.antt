use Rattle.std.proofs.Common.{◌*◌, ◌%◌, ◌≡◌, ◌<◌, ap, ◌∙◌, arith}
use Rattle.std.proofs.Math.Nat.{mod-lt}
use Rattle.grid_base.specs.Numbers.{vertices}
use Rattle.grid_graph.specs.Flat.{tiles, tile_edge_of}
use Rattle.grid_graph.specs.Grids.{size_of}
use Rattle.edge_prices.proofs.TilePrices.{tiles-kept, tiles-set}
use Rattle.edge_prices.proofs.tile_prices.write_tile_price.Goals as goal

pub returns-then-entry-vertices : goal.returns-then-entry-vertices
returns-then-entry-vertices c before old same =
    let count = c.vertices.ensures ∙ ap vertices c.size.ensures in
    tiles-kept c.args.grid.now before c.args.prices.now c.args.out.now c.args.entry old same (omega (arith, count, c.if-entry-vertices.true))

pub returns : goal.returns
returns c before old same =
    let s = size_of c.args.grid.now in
    let w = c.tile_edges.ensures.value in
    let inside : c.args.entry % (2 * tiles s) < 2 * tiles s = mod-lt c.args.entry (omega (arith, w, c.tile_edges.ensures.some)) in
    let tile : c.args.entry % c.tile_edges.result ≡ tile_edge_of s c.args.entry = ap (λ n. c.args.entry % n) w in
    tiles-set c.args.grid.now before c.args.prices.now c.args.out.now c.args.entry (c.args.entry % c.tile_edges.result) c.least_price_over.result old same (omega (arith, tile, inside)) tile c.least_price_over.ensures
