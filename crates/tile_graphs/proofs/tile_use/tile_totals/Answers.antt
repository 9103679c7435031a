use Rattle.std.proofs.Common.{◌*◌, ◌∙◌, ap, sym, replicate}
use Rattle.grid_graph.specs.Flat.{tiles}
use Rattle.grid_graph.specs.Grids.{size_of}
use Rattle.tile_graphs.specs.Fullness.{no_total}
use Rattle.tile_graphs.specs.Totals.{with_edge}
use Rattle.tile_graphs.proofs.Ranges.{fold_range_more}
use Rattle.tile_graphs.proofs.tile_use.tile_totals.Goals as goal

pub loop-e-preserved : goal.loop-e-preserved
loop-e-preserved c =
    let grid = c.args.grid.now in
    let step = with_edge grid c.args.loads.now in
    let start = replicate (2 * tiles (size_of grid)) no_total in
    record {
      long = c.add_edge.ensures.long ∙ c.loop-e.invariant.long;
      all = c.add_edge.ensures.added ∙ ap (λ totals. step totals c.loop-e.e) c.loop-e.invariant.all ∙ sym (fold_range_more step start c.loop-e.e);
    }
