use Rattle.std.proofs.Common.{◌≡◌, List, slice_set, sym, ◌∙◌, ap, subst}
use Rattle.grid_base.specs.declared.piece.Piece.{Piece}
use Rattle.routing_state.specs.declared.totals.Totals.{Totals}
use Rattle.routing_state.specs.States.{totals_in}
use Rattle.routing_state.specs.Totals.{IsNoWorse, totals_of}
use Rattle.routing_state.proofs.Back.{put_back_same}
use Rattle.routing_state.proofs.Better.{IsNoWorse-refl}
use Rattle.routing_state.proofs.state.RoutingState.exchange_unless_worse.Goals as goal

pub returns-then-not-is_kept-clause-kept : goal.returns-then-not-is_kept-clause-kept
returns-then-not-is_kept-clause-kept c = λ worse.
    c.exchange.ensures.trees
    ∙ ap (λ (ts : List (List Piece)). slice_set ts c.args.net c.exchange-had.result) c.exchange-had.ensures.trees
    ∙ put_back_same c.args.self.now.trees.items c.args.net c.args.tree c.exchange-had.result (sym (c.exchange-had.ensures.before c.exchange-had.result))

pub returns-then-not-is_kept-clause-no_worse : goal.returns-then-not-is_kept-clause-no_worse
returns-then-not-is_kept-clause-no_worse c =
    let same = c.exchange.ensures.trees
    ∙ ap (λ (ts : List (List Piece)). slice_set ts c.args.net c.exchange-had.result) c.exchange-had.ensures.trees
    ∙ put_back_same c.args.self.now.trees.items c.args.net c.args.tree c.exchange-had.result (sym (c.exchange-had.ensures.before c.exchange-had.result)) in
    let before = c.args.self.now in
    let equal : totals_in c.exchange.new.self ≡ totals_in before =
    c.exchange.ensures.state.totals ∙ ap (totals_of c.args.design.now) same ∙ sym c.requires.state.totals in
    subst (λ (t : Totals). IsNoWorse t (totals_in before)) (sym equal) (IsNoWorse-refl (totals_in before))
