use Rattle.std.proofs.Common.{◌∙◌, ap, map, refl}
use Rattle.std.proofs.lemmas.Iterator.{YieldsList-from_range, YieldsList-from_slice, YieldsList-from_zip}
use Rattle.std.proofs.lemmas.Iterator.Consumers.{YieldsList-end}
use Rattle.tile_graphs.specs.Cuts.{cuts_of, fuller_cut}
use Rattle.tile_graphs.specs.Uses.{most_tile_edges}
use Rattle.tile_graphs.proofs.Numbered.{zip_numbers}
use Rattle.tile_graphs.proofs.tile_cuts.fuller_cuts.Goals as goal

pub returns : goal.returns
returns c =
    let view = c.args.view.now in
    let end = YieldsList-end (YieldsList-from_zip (YieldsList-from_range 0 most_tile_edges most_tile_edges (cc) refl) (YieldsList-from_slice view.totals.items cc))
    c.loop-tile_edge.yielded _ c.loop-tile_edge.yielded_by _ c.next.new.self c.in-None.is c.next.ensures.steps in
    c.loop-tile_edge.invariant ∙ ap (map (fuller_cut view.size (cuts_of view))) (end.0 ∙ zip_numbers 0 most_tile_edges view.totals.items)
