use Rattle.std.proofs.Common.{rules}
use Rattle.grid_base.specs.Lists.{At}
use Rattle.grid_graph.specs.declared.net_spec.NetSpec.{NetSpec}
use Rattle.tree_set.specs.Routings.{IsRoute}
use Rattle.negotiation.proofs.Found.{found_no_wall}
use Rattle.negotiation.proofs.Steps.{kept_itself, kept_put}
use Rattle.negotiation.proofs.negotiating.put_set.Goals as goal

pub exchange-requires-clause-set : goal.exchange-requires-clause-set
exchange-requires-clause-set c =
    let d = c.args.design.now in
    let route : (n : NetSpec) → At d.nets c.args.net n → IsRoute d.grid n c.in-Some.tree = rw c.in-Some.is at c.requires.found in
    found_no_wall d c.args.net c.in-Some.tree c.requires.net route

pub returns-in-Some : goal.returns-in-Some
returns-in-Some c =
    let d = c.args.design.now in
    let route : (n : NetSpec) → At d.nets c.args.net n → IsRoute d.grid n c.in-Some.tree = rw c.in-Some.is at c.requires.found in
    record {
      kept = kept_put d c.args.rerouting.now c.exchange.new.self c.args.net c.in-Some.tree route
          c.exchange.ensures.of c.exchange.ensures.trees c.exchange.ensures.best c.exchange.ensures.totals;
      sets = rw c.in-Some.is c.exchange.ensures.trees;
    }

pub returns-in_default : goal.returns-in_default
returns-in_default c = record { kept = kept_itself c.args.design.now c.args.rerouting.now c.requires.of; sets = search rules }
