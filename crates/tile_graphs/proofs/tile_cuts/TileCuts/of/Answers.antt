use Rattle.std.proofs.Common.{◌∙◌, ap, fold, refl, replicate}
use Rattle.std.proofs.lemmas.Iterator.{YieldsList-from_range, YieldsList-from_slice, YieldsList-from_zip}
use Rattle.std.proofs.lemmas.Iterator.Consumers.{YieldsList-end}
use Rattle.grid_graph.specs.Flat.{tiles}
use Rattle.tile_graphs.specs.Cuts.{with_net, with_tile_edge}
use Rattle.tile_graphs.specs.Fullness.{no_total}
use Rattle.tile_graphs.specs.Uses.{most_tile_edges}
use Rattle.tile_graphs.proofs.Numbered.{zip_numbers}
use Rattle.tile_graphs.proofs.tile_cuts.TileCuts.of.Goals as goal

pub returns : goal.returns
returns c =
    let view = c.args.view.now in
    let end = YieldsList-end (YieldsList-from_zip (YieldsList-from_range 0 most_tile_edges most_tile_edges (cc) refl) (YieldsList-from_slice view.totals.items cc))
    c.loop-tile_edge.yielded _ c.loop-tile_edge.yielded_by _ c.next.new.self c.in-None.is c.next.ensures.steps in
    let round = c.loop-tile_edge.invariant
    ∙ ap (fold (with_tile_edge view.size) (replicate (tiles view.size) no_total)) (end.0 ∙ zip_numbers 0 most_tile_edges view.totals.items) in
    c.add_nets.ensures ∙ ap (λ cuts. fold (with_net view.nets.tiles.items) cuts view.nets.nets.items) round
