use Rattle.std.proofs.Common.{◌≡◌, ℕ, ◌≤◌, ◌*◌, ◌^◌, ◌+◌, ◌∙◌, ap, arith, slice_index}
use Rattle.grid_graph.specs.Flat.{tiles}
use Rattle.grid_graph.specs.Grids.{capacity, kind, size_of}
use Rattle.grid_base.specs.declared.size.Size.{Size}
use Rattle.congestion_cells.specs.TileUses.{edge_over, with_edge}
use Rattle.congestion_cells.proofs.Uses.{edge_below, use_more}
use Rattle.congestion_cells.proofs.tile_uses.tile_use.Goals as goal

pub loop-i-init : goal.loop-i-init
loop-i-init c =
    let none = c.none-found.ensures c.args.grid.now (slice_index c.args.loads.now) in
    record { found = none; load = rw none (omega arith); capacity = rw none (omega arith) }

pub bounds-loads-edge : goal.bounds-loads-edge
bounds-loads-edge c =
    let s = size_of c.args.grid.now in
    let per : c.tile_edges-per_layer.result ≡ 2 * tiles s = c.tile_edges-per_layer.ensures ∙ ap (λ (t : Size). 2 * tiles t) c.size.ensures in
    rw (per, c.requires.loads) (edge_below s c.args.tile_edge (c.args.shown.first + c.loop-i.i) c.requires.edge (omega (arith, c.loop-i-test.true, c.requires.layers)))

pub capacity-requires : goal.capacity-requires
capacity-requires c =
    let s = size_of c.args.grid.now in
    let per : c.tile_edges-per_layer.result ≡ 2 * tiles s = c.tile_edges-per_layer.ensures ∙ ap (λ (t : Size). 2 * tiles t) c.size.ensures in
    rw per (edge_below s c.args.tile_edge (c.args.shown.first + c.loop-i.i) c.requires.edge (omega (arith, c.loop-i-test.true, c.requires.layers)))

pub kind-requires : goal.kind-requires
kind-requires c =
    let s = size_of c.args.grid.now in
    let per : c.tile_edges-per_layer.result ≡ 2 * tiles s = c.tile_edges-per_layer.ensures ∙ ap (λ (t : Size). 2 * tiles t) c.size.ensures in
    rw per (edge_below s c.args.tile_edge (c.args.shown.first + c.loop-i.i) c.requires.edge (omega (arith, c.loop-i-test.true, c.requires.layers)))

pub loop-i-preserved : goal.loop-i-preserved
loop-i-preserved c =
    let g = c.args.grid.now in
    let s = size_of g in
    let load : ℕ → ℕ = slice_index c.args.loads.now in
    let layer = c.args.shown.first + c.loop-i.i in
    let edge = edge_over s c.args.tile_edge layer in
    let per : c.tile_edges-per_layer.result ≡ 2 * tiles s = c.tile_edges-per_layer.ensures ∙ ap (λ (t : Size). 2 * tiles t) c.size.ensures in
    let more : c.with-found.result ≡ with_edge c.loop-i.found (load edge) (capacity g edge) (kind g edge) =
    rw per at (rw (c.capacity.ensures.value, c.kind.ensures) at c.with-found.ensures) in
    let limit : capacity g edge ≤ 2 ^ 18 = rw per at (rw c.capacity.ensures.value at c.capacity.ensures.limit) in
    record {
      found = more ∙ use_more g load c.args.shown.first c.loop-i.i c.args.tile_edge c.loop-i.found c.loop-i.invariant.found;
      load = rw more (omega (arith, c.loop-i.invariant.load, c.type_inv.loads edge));
      capacity = rw more (omega (arith, c.loop-i.invariant.capacity, limit));
    }
