use Rattle.std.proofs.Common.{All, List, sym, subst, arith}
use Rattle.grid_base.specs.declared.vertex.Vertex.{Vertex}
use Rattle.grid_base.specs.Numbers.{IsVertex}
use Rattle.grid_graph.proofs.TileLists.{tiles_vertices}
use Rattle.grid_graph.proofs.TileSteps.{flat_tiles}
use Rattle.shortest_paths.specs.LabelWords.{labels_size}
use Rattle.least_weights.proofs.NearestLed.{nearest_at_last}
use Rattle.least_weights.proofs.nearest.led_nearest.Goals as goal

pub across_tiles-requires-clause-tiles : goal.across_tiles-requires-clause-tiles
across_tiles-requires-clause-tiles g c =
    let s = g.W.Weights.size c.args.weights.now in
    let flat = labels_size c.args.labels.now.flat in
    subst (λ (ts : List Vertex). All (λ (v : Vertex). IsVertex flat v.0) ts) (sym c.requires.tiles)
    (tiles_vertices flat s c.args.terminals.now (flat_tiles flat s c.requires.labels.flat))

pub returns-else-limit-lt-MOST-clause-nearest : goal.returns-else-limit-lt-MOST-clause-nearest
returns-else-limit-lt-MOST-clause-nearest g c =
    let w = c.args.weights.now in
    nearest_at_last (g.W.Weights.size w) (g.W.Weights.pieces w) c.args.terminals.now c.args.here.0 c.loop-found.limit c.loop-found.found
    (g.met.W.Weights.small w) c.loop-found.invariant.nearest (λ none. omega (arith, c.if-limit-lt-MOST.false, c.loop-found.invariant.limit))
