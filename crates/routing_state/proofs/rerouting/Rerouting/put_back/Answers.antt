use Rattle.std.proofs.Common.{◌≡◌, ◌<◌, rules, List, length, get_or, slice_set, sym, ◌∙◌, ap, arith, Option, Some, None}
use Rattle.std.proofs.lemmas.List.{length-set}
use Rattle.grid_base.specs.declared.piece.Piece.{Piece}
use Rattle.grid_graph.specs.declared.ground.Ground.TheVariants.{WithChoked}
use Rattle.tree_set.specs.Routings.{KeepsTo}
use Rattle.routing_state.specs.Best.{best_sets}
use Rattle.routing_state.specs.Totals.{totals_of}
use Rattle.routing_state.proofs.Back.{saved_more}
use Rattle.routing_state.proofs.BestSets.{best_sets-put_back}
use Rattle.routing_state.proofs.rerouting.Rerouting.put_back.Goals as goal

pub returns-in-Some-clause-best : goal.returns-in-Some-clause-best
returns-in-Some-clause-best c =
    let saved = c.args.self.now.saved.items in
    let now = c.args.self.now.state.trees.items in
    let tree = c.in-Some.tree in
    let some : get_or saved c.args.net (Some tree) ≡ Some tree = search rules in
    let gone : c.take.new.self ≡ None = search rules in
    let in_saved : c.args.net < length saved = omega (arith, c.requires.net, c.requires.of.long) in
    ap (λ (o : Option (List Piece)). best_sets (slice_set saved c.args.net o) c.exchange.new.self.trees.items) gone
    ∙ ap (best_sets (slice_set saved c.args.net None)) c.exchange.ensures.trees
    ∙ best_sets-put_back saved now c.args.net (Some tree) tree in_saved some

pub returns-in-Some-clause-of : goal.returns-in-Some-clause-of
returns-in-Some-clause-of c =
    let saved = c.args.self.now.saved.items in
    let now = c.args.self.now.state.trees.items in
    let tree = c.in-Some.tree in
    let some : get_or saved c.args.net (Some tree) ≡ Some tree = search rules in
    let gone : c.take.new.self ≡ None = search rules in
    let in_saved : c.args.net < length saved = omega (arith, c.requires.net, c.requires.of.long) in
    let same = ap (λ (o : Option (List Piece)). best_sets (slice_set saved c.args.net o) c.exchange.new.self.trees.items) gone
    ∙ ap (best_sets (slice_set saved c.args.net None)) c.exchange.ensures.trees
    ∙ best_sets-put_back saved now c.args.net (Some tree) tree in_saved some in
    record {
      state = c.exchange.ensures.state;
      long = length-set saved c.args.net c.take.new.self ∙ c.requires.of.long;
      no_walls = saved_more (KeepsTo c.args.design.now.grid WithChoked) saved c.args.net c.take.new.self c.requires.of.no_walls (λ x is. absurd (cc));
      best = c.requires.of.best ∙ ap (totals_of c.args.design.now) (sym same);
    }
