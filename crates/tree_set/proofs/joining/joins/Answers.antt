use Rattle.std.proofs.Common.{Contains, sym}
use Rattle.grid_base.specs.Walks.{InPieces}
use Rattle.tree_set.proofs.Reaching.{reached_by_flood, joins_by_reach}
use Rattle.tree_set.proofs.joining.joins.Goals as goal

pub returns : goal.returns
returns c =
    let s = c.args.size in
    let tree = c.args.tree.now in
    let root = c.in-Some.root.now in
    let first = c.in-Some.ensures.item in
    let at : Contains c.args.terminals.now root = (0, first.3.0, sym first.1) in
    let reached = reached_by_flood s (InPieces tree) c.none-reached.result c.flood.new.marks root.0 c.none-reached.ensures c.in_ok-flood.ensures.flooded in
    let same = joins_by_reach s tree c.args.terminals.now root c.flood.new.marks reached at in
    (λ yes. same.0 (c.are_reached.ensures.0 yes), λ joins. c.are_reached.ensures.1 (same.1 joins))
