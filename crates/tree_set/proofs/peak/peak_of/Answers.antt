use Rattle.std.proofs.Common.{◌*◌, slice_index, refl}
use Rattle.grid_base.specs.Numbers.{vertices}
use Rattle.grid_graph.specs.Grids.{capacity, size_of}
use Rattle.fractions.specs.Fractions.{IsRatio}
use Rattle.tree_set.proofs.Fullest.{IsGreatest-fullest}
use Rattle.tree_set.proofs.peak.peak_of.Goals as goal

pub returns : goal.returns
returns c =
    let g = c.args.grid.now in
    let edge = c.in_ok-edge.edge.0 in
    let ratio : IsRatio (slice_index c.args.loads.now edge) (capacity g edge) c.of.result = cc in
    IsGreatest-fullest g (slice_index c.args.loads.now) (2 * vertices (size_of g)) edge c.of.result c.in_ok-edge.ensures refl ratio
