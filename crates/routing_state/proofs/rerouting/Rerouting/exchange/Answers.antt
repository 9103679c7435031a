use Rattle.std.proofs.Common.{◌<◌, List, length, get_or, slice_set, sym, ◌∙◌, ap, subst, arith, Option, Some}
use Rattle.std.specs.Prelude.{unwrap_or}
use Rattle.std.proofs.lemmas.List.{length-set}
use Rattle.std.proofs.lemmas.Option.{same_Some, slice_get-get_or}
use Rattle.grid_base.specs.declared.piece.Piece.{Piece}
use Rattle.grid_graph.specs.declared.ground.Ground.TheVariants.{WithChoked}
use Rattle.tree_set.specs.Routings.{KeepsTo}
use Rattle.routing_state.specs.Best.{best_sets}
use Rattle.routing_state.specs.Totals.{totals_of}
use Rattle.routing_state.proofs.Back.{or_saved, saved_more}
use Rattle.routing_state.proofs.BestSets.{best_sets-saved}
use Rattle.routing_state.proofs.rerouting.Rerouting.exchange.Goals as goal

pub returns-clause-best : goal.returns-clause-best
returns-clause-best c =
    let saved = c.args.self.now.saved.items in
    let now = c.args.self.now.state.trees.items in
    let old = c.exchange-before.result in
    let o = c.index_mut.result.now in
    let in_saved : c.args.net < length saved = omega (arith, c.requires.net, c.requires.of.long) in
    let in_now : c.args.net < length now = omega (arith, c.requires.net, c.requires.of.state.sets.one_each) in
    ap (λ (s : Option (List Piece)). best_sets (slice_set saved c.args.net s) c.exchange-before.new.self.trees.items) c.save.ensures
    ∙ ap (λ (s : Option (List Piece)). best_sets (slice_set saved c.args.net (Some (unwrap_or s old))) c.exchange-before.new.self.trees.items) c.index_mut.ensures.value
    ∙ ap (best_sets (slice_set saved c.args.net (Some (unwrap_or (get_or saved c.args.net o) old)))) c.exchange-before.ensures.trees
    ∙ best_sets-saved saved now c.args.net o old c.args.tree in_saved in_now (sym (c.exchange-before.ensures.before old))

pub returns-clause-of : goal.returns-clause-of
returns-clause-of c =
    let g = c.args.design.now.grid in
    let saved = c.args.self.now.saved.items in
    let old = c.exchange-before.result in
    let o = c.index_mut.result.now in
    let in_saved : c.args.net < length saved = omega (arith, c.requires.net, c.requires.of.long) in
    record {
      state = c.exchange-before.ensures.state;
      long = length-set saved c.args.net c.save.new.saved ∙ c.requires.of.long;
      no_walls = saved_more (KeepsTo g WithChoked) saved c.args.net c.save.new.saved c.requires.of.no_walls
          (λ tree is. subst (KeepsTo g WithChoked) (same_Some _ _ (sym c.save.ensures ∙ is))
          (or_saved (KeepsTo g WithChoked) o old
          (λ kept some. c.requires.of.no_walls c.args.net kept (slice_get-get_or saved c.args.net o in_saved ∙ ap (λ (s : Option (List Piece)). Some s) (sym c.index_mut.ensures.value ∙ some)))
          c.exchange-before.ensures.set));
      best = c.requires.of.best ∙ ap (totals_of c.args.design.now) (sym (returns-clause-best c));
    }
