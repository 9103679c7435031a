use Rattle.std.proofs.Common.{List, length, All, sym, ◌∙◌, ap, subst}
use Rattle.std.proofs.lemmas.Slice.Zip.{AllZip-long}
use Rattle.grid_base.specs.declared.piece.Piece.{Piece}
use Rattle.grid_graph.specs.Grids.{size_of}
use Rattle.tree_set.specs.Routings.{ArePieces, IsRoute}
use Rattle.routing_passes.proofs.PartSteps.{routing_pieces}
use Rattle.routing_tests.proofs.repair_tests.repaired_by.Goals as goal

pub measure_of-requires-clause-one_each : goal.measure_of-requires-clause-one_each
measure_of-requires-clause-one_each g c =
    let d = c.args.design.now in
    ap length c.list.ensures ∙ AllZip-long (IsRoute d.grid) d.nets c.in_ok-routed.routed.trees c.in_ok-routed.ensures.routing

pub measure_of-requires-clause-pieces : goal.measure_of-requires-clause-pieces
measure_of-requires-clause-pieces g c =
    let d = c.args.design.now in
    subst (λ (ts : List (List Piece)). All (ArePieces (size_of d.grid)) ts) (sym c.list.ensures)
    (routing_pieces d.grid d.nets c.in_ok-routed.routed.trees c.in_ok-routed.ensures.routing)
