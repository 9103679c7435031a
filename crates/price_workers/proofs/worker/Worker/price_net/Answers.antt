use Rattle.std.proofs.Common.{◌≡◌, ℕ, List, length, get_or, refl, sym, ◌∙◌, ap}
use Rattle.price_workers.proofs.Common.{get_or_push, same_Some, Piece, At, NetSpec, loads_of, scale_of, budget_of}
use Rattle.price_workers.proofs.LightSteps.{step_moved}
use Rattle.price_workers.proofs.MarkSteps.{changes_put}
use Rattle.price_workers.proofs.TurnFacts.{At-read, step_pieces, working_put}
use Rattle.price_workers.proofs.worker.Worker.price_net.Goals.{After-index, After-index-list-net}
use Rattle.price_workers.proofs.worker.Worker.price_net.Goals as goal

-- the net stands in the design
here : (c : After-index-list-net) → At c.args.design.now.nets c.args.net c.index-list-net.result
here c =
    At-read c.args.design.now.nets c.args.net c.index-list-net.result
    (c.index-list-net.is ∙ ap (λ (l : List NetSpec). get_or l c.args.net c.index-list-net.result) c.list.ensures.items) c.requires.net

-- the set that is read is the one that was pushed
pushed : (c : After-index) → c.index.result.now ≡ c.in_ok-tree.tree
pushed c =
    let old : List (List Piece) = c.args.self.now.trees.items in
    let found : List Piece = c.index.result.now in
    c.index.ensures
    ∙ ap (λ (k : ℕ). get_or c.push.new.self.items k found) (c.len-at.ensures ∙ c.args.self.now.trees.ok.0)
    ∙ ap (λ (l : List (List Piece)). get_or l (length old) found) c.in_ok-push.ensures.items
    ∙ get_or_push old c.in_ok-tree.tree found (length old) refl

pub route_net-requires-clause-ground : goal.route_net-requires-clause-ground
route_net-requires-clause-ground c =
    rw c.requires.works.on_grid
    (c.requires.ground _ (here (goal.at.route_net-requires-clause-ground c).After-index-list-net))

pub put_tree-requires-clause-width : goal.put_tree-requires-clause-width
put_tree-requires-clause-width c =
    (c.args.design.now.limits.net c.args.net _ (here (goal.at.put_tree-requires-clause-width c).After-index-list-net)).width

pub put_tree-requires-clause-pieces : goal.put_tree-requires-clause-pieces
put_tree-requires-clause-pieces c =
    rw (pushed c, ← c.requires.works.on_grid)
    (step_pieces _ c.index-list-net.result _ c.in_ok-tree.tree c.in_ok-tree.ensures.step)

pub invariant_of-self-2 : goal.invariant_of-self-2
invariant_of-self-2 c =
    let w = c.args.self.now in
    let route = c.in_ok-tree.ensures in
    let put = c.put_tree.ensures in
    record {
      working = working_put c.args.design.now.grid c.index-list-net.result.width c.index.result.now w.share c.put_tree.new.share
          w.kept c.route_net.new.kept c.put_tree.new.kept w.working.words (w.working.close c.requires.may.refreshed)
          route.setting route.loads route.labels put.party put.share put.seen put.table put.setting put.valid;
      marked = changes_put c.args.design.now.grid c.index-list-net.result.width c.index.result.now c.in_ok-tree.tree
          w.share.party c.put_tree.new.share.party w.kept c.route_net.new.kept c.put_tree.new.kept w.marked c.requires.works.on_grid route.setting put.setting route.loads
          (pushed (goal.at.invariant_of-self-2 c).After-index) c.add_tree.ensures.marked put.seen put.party;
    }

pub returns-clause-priced : goal.returns-clause-priced
returns-clause-priced c n at =
    let w = c.args.self.now in
    let spec = c.index-list-net.result in
    let put = c.put_tree.ensures in
    let its = pushed (goal.at.returns-clause-priced c).After-index in
    rw (same_Some n spec (sym at ∙ here (goal.at.returns-clause-priced c).After-index-list-net)) (record {
      tree = c.in_ok-tree.tree;
      step = step_moved {loads = loads_of w.kept} {scale = scale_of w.kept} {budget = budget_of w.kept} c.requires.works.on_grid
          refl refl refl c.in_ok-tree.ensures.step;
      trees = c.in_ok-push.ensures.items;
      seen = rw (← c.in_ok-tree.ensures.loads, ← its) put.seen;
      share = rw (← its) put.share;
      counted = record { since = refl; refreshed = c.requires.may.refreshed; party = put.party };
    })

pub add_tree-requires-clause-pieces : goal.add_tree-requires-clause-pieces
add_tree-requires-clause-pieces c =
    rw (← c.requires.works.on_grid) (step_pieces _ c.index-list-net.result _ c.in_ok-tree.tree c.in_ok-tree.ensures.step)
