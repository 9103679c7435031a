use Rattle.std.proofs.Common.{refl, rules}
use Rattle.grid_base.specs.Lists.{At}
use Rattle.grid_graph.specs.declared.net_spec.NetSpec.{NetSpec}
use Rattle.tree_set.specs.Routings.{IsRoute}
use Rattle.negotiation.proofs.Found.{found_no_wall}
use Rattle.negotiation.proofs.Steps.{improved_by, improved_itself}
use Rattle.negotiation.proofs.descending.offer_set.Goals as goal

pub exchange_unless_worse-requires-clause-set : goal.exchange_unless_worse-requires-clause-set
exchange_unless_worse-requires-clause-set c =
    let d = c.args.design.now in
    let route : (n : NetSpec) → At d.nets c.args.net n → IsRoute d.grid n c.in-Some.tree = rw c.in-Some.is at c.requires.found in
    found_no_wall d c.args.net c.in-Some.tree c.requires.net route

pub returns-in-Some : goal.returns-in-Some
returns-in-Some c =
    let d = c.args.design.now in
    let route : (n : NetSpec) → At d.nets c.args.net n → IsRoute d.grid n c.in-Some.tree = rw c.in-Some.is at c.requires.found in
    record {
      improved = improved_by d c.args.state.now c.exchange_unless_worse.new.self c.args.net c.in-Some.tree c.exchange_unless_worse.result route
          c.exchange_unless_worse.ensures.state c.exchange_unless_worse.ensures.got c.exchange_unless_worse.ensures.kept c.exchange_unless_worse.ensures.no_worse;
      offered = record {
        taken = rw c.in-Some.is (λ fine. c.exchange_unless_worse.ensures.got (c.exchange_unless_worse.ensures.decided.1 fine));
        refused = rw c.in-Some.is (λ worse. c.exchange_unless_worse.ensures.kept (λ got. worse (c.exchange_unless_worse.ensures.decided.0 got)));
      };
    }

pub returns-in_default : goal.returns-in_default
returns-in_default c = record { improved = improved_itself c.args.design.now c.args.state.now c.requires.state; offered = record { taken = λ fine. search rules; refused = λ worse. refl } }
