use Rattle.negotiation.proofs.Found.{found_no_wall}
use Rattle.negotiation.proofs.Steps.{renewed_at}
use Rattle.negotiation.proofs.starting.put_route.Goals as goal

pub exchange-requires-clause-set : goal.exchange-requires-clause-set
exchange-requires-clause-set c = found_no_wall c.args.design.now c.args.net c.args.tree c.requires.net c.requires.route

pub returns : goal.returns
returns c = record {
  renewed = renewed_at c.args.design.now c.args.state.now c.exchange.new.self c.args.net c.args.tree c.requires.route c.exchange.ensures.state c.exchange.ensures.trees;
  set = c.exchange.ensures.trees;
}
