use Rattle.std.proofs.Common.{◌≡◌, ℕ, ◌+◌, ◌<◌, ◌≤◌, ◌||◌, Bool, ltb, slice_index, sym, ◌∙◌, ap, arith}
use Rattle.std.proofs.lemmas.Bool.{le-ltb, lt-ltb}
use Rattle.congestion_cells.specs.CutEdges.{is_priced}
use Rattle.congestion_cells.specs.TileUses.{edge_over}
use Rattle.congestion_cells.proofs.Uses.{any_more, any_passes, edge_below}
use Rattle.congestion_cells.proofs.priced.is_priced.Goals as goal

pub bounds-prices-edge : goal.bounds-prices-edge
bounds-prices-edge c =
    let s = c.args.size in
    let below = edge_below s c.args.tile_edge (c.args.shown.first + c.loop-i.i) c.requires.edge (omega (arith, c.loop-i-test.true, c.requires.layers)) in
    rw c.tile_edges-per_layer.ensures (omega (arith, below, c.requires.prices))

pub returns-then-prices-edge-gt0 : goal.returns-then-prices-edge-gt0
returns-then-prices-edge-gt0 c =
    let s = c.args.size in
    let price : ℕ → ℕ = slice_index c.args.prices.now in
    let first = c.args.shown.first in
    let i = c.loop-i.i in
    let some : 0 < price (edge_over s c.args.tile_edge (first + i)) = rw c.tile_edges-per_layer.ensures at c.if-prices-edge-gt0.true in
    sym (any_passes (λ (e : ℕ). ltb 0 (price e)) (edge_over s c.args.tile_edge) first c.args.shown.count i c.loop-i-test.true (lt-ltb 0 _ some))

pub loop-i-preserved : goal.loop-i-preserved
loop-i-preserved c =
    let s = c.args.size in
    let price : ℕ → ℕ = slice_index c.args.prices.now in
    let first = c.args.shown.first in
    let i = c.loop-i.i in
    let none : price (edge_over s c.args.tile_edge (first + i)) ≤ 0 = rw c.tile_edges-per_layer.ensures at c.if-prices-edge-gt0.false in
    any_more (λ (e : ℕ). ltb 0 (price e)) (edge_over s c.args.tile_edge) first i
    ∙ ap (λ (b : Bool). b || ltb 0 (price (edge_over s c.args.tile_edge (first + i)))) c.loop-i.invariant
    ∙ le-ltb 0 _ none

pub returns : goal.returns
returns c =
    let whole : c.loop-i.i ≡ c.args.shown.count = omega (arith, c.loop-i-test.false, c.loop-i.auto.i-end) in
    sym (sym (ap (λ (k : ℕ). is_priced c.args.size (slice_index c.args.prices.now) (record { first = c.args.shown.first; count = k }) c.args.tile_edge) whole) ∙ c.loop-i.invariant)
