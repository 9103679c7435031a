use Rattle.std.proofs.Common.{◌≡◌, ◌*◌, None, Some, ◌∙◌, ap, subst}
use Rattle.grid_base.specs.Numbers.{vertices}
use Rattle.route_judge.specs.Objections.{Finds}
use Rattle.route_judge.specs.Orders.{route_objections}
use Rattle.route_judge.specs.Stops.{StopsFor}
use Rattle.route_judge.proofs.Found.{found_once}
use Rattle.route_judge.proofs.RunningSums.{AreFinished, finished_loads}
use Rattle.route_judge.proofs.routes.loads_of.Goals as goal

pub unreachable-requires : goal.unreachable-requires
unreachable-requires g c =
    let d = c.args.design.now in
    let objections = route_objections d (g.B.Blocks.list c.args.blocks) in
    let reason = c.in-Err-Refused.field-0-0 in
    let found : Finds d objections (Some reason) = subst (StopsFor d objections) c.in-Err-Refused.field-0-is c.in-Err-Refused.ensures.stops in
    let same : None ≡ Some reason = found_once d objections None (Some reason) c.requires.routes found in
    cc same

pub returns-in-Ok-clause-long : goal.returns-in-Ok-clause-long
returns-in-Ok-clause-long g c = c.finish.ensures.long ∙ ap (λ s. 2 * vertices s) c.in-Ok.ensures.sums.sums_of.sized

pub returns-in-Ok-clause-loads : goal.returns-in-Ok-clause-loads
returns-in-Ok-clause-loads g c =
    let of = c.in-Ok.ensures.sums in
    let finished : AreFinished c.in-Ok.sums c.finish.result.items = record { long = c.finish.ensures.long; each = c.finish.ensures.loads } in
    record {
      trees = of.trees;
      sets = of.sets;
      joining = of.joining;
      of_trees = finished_loads c.args.design.now c.args.grounds.now (g.B.Blocks.list c.args.blocks) c.in-Ok.sums of c.finish.result.items finished;
    }
