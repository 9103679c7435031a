use Rattle.std.proofs.Common.{◌≡◌, None, Some, map, subst}
use Rattle.route_judge.specs.Objections.{missing_net, Finds}
use Rattle.route_judge.specs.Orders.{all_block_objections}
use Rattle.route_judge.specs.Stops.{StopsFor}
use Rattle.route_judge.proofs.AllSets.{all_sets, all_joining}
use Rattle.route_judge.proofs.Found.{found_once, none_before, none_behind}
use Rattle.route_judge.proofs.routes.trees_of.Goals as goal

pub unreachable-requires : goal.unreachable-requires
unreachable-requires g c =
    let d = c.args.design.now in
    let blocks = g.B.Blocks.list c.args.blocks in
    let objections = all_block_objections blocks in
    let reason = c.in-Err-Refused.field-0-0 in
    let found : Finds d objections (Some reason) = subst (StopsFor d objections) c.in-Err-Refused.field-0-is c.in-Err-Refused.ensures.stops in
    let same : None ≡ Some reason = found_once d objections None (Some reason) (none_before d objections (map (missing_net blocks) d.nets) c.requires.routes) found in
    cc same

pub returns-in-Ok-clause-sets : goal.returns-in-Ok-clause-sets
returns-in-Ok-clause-sets g c = all_sets c.args.design.now (g.B.Blocks.list c.args.blocks) c.in-Ok.sets.trees.items c.in-Ok.ensures.sets

pub returns-in-Ok-clause-joining : goal.returns-in-Ok-clause-joining
returns-in-Ok-clause-joining g c =
    let d = c.args.design.now in
    let blocks = g.B.Blocks.list c.args.blocks in
    all_joining d blocks c.in-Ok.sets.trees.items c.in-Ok.ensures.sets (none_behind d (all_block_objections blocks) (map (missing_net blocks) d.nets) c.requires.routes)
