use Rattle.std.proofs.Common.{subst}
use Rattle.grid_base.specs.declared.size.Size.{Size}
use Rattle.steiner_tables.specs.Masks.{all_but_root}
use Rattle.dijkstra_steiner.specs.MaskSearches.{IsMaskSearch}
use Rattle.dijkstra_steiner.proofs.Settling.{settled_begin}
use Rattle.dijkstra_steiner.proofs.search.least_over_masks.Goals as goal

pub settle_root-requires-clause-masks : goal.settle_root-requires-clause-masks
settle_root-requires-clause-masks g c root =
    let pieces = g.W.Weights.pieces c.args.weights.now in
    let terminals = c.args.terminals.now in
    let low = g.F.Family.low c.args.family.now in
    subst (λ (x : Size). IsMaskSearch x pieces terminals low (all_but_root terminals) root c.start.new.row) c.requires.labels
    (c.start.ensures.masks pieces root)

pub settle_root-requires-clause-settled : goal.settle_root-requires-clause-settled
settle_root-requires-clause-settled g c =
    settled_begin (g.W.Weights.size c.args.weights.now) (g.W.Weights.pieces c.args.weights.now)
    (all_but_root c.args.terminals.now) c.start.new.row c.start.ensures.waits
