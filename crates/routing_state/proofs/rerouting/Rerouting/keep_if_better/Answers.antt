use Rattle.std.proofs.Common.{◌≡◌, length, sym, ◌∙◌, ap, subst}
use Rattle.routing_state.specs.declared.state.RoutingState.{RoutingState}
use Rattle.routing_state.specs.States.{IsStateOf, totals_in, trees_of}
use Rattle.routing_state.proofs.Fresh.{best_of-fresh, IsReroutingOf-fresh}
use Rattle.routing_state.proofs.rerouting.Rerouting.keep_if_better.Goals as goal

pub returns-then-is_better-clause-of : goal.returns-then-is_better-clause-of
returns-then-is_better-clause-of c = λ d of.
    let end = c.forget.new.self in
    let before = c.args.self.now in
    let long : length end.saved.items ≡ length end.state.trees.items =
    c.forget.ensures.long ∙ of.long ∙ sym of.state.sets.one_each ∙ ap (λ (s : RoutingState). length (trees_of s)) (sym c.forget.ensures.state) in
    IsReroutingOf-fresh d end (subst (IsStateOf d) (sym c.forget.ensures.state) of.state) long c.forget.ensures.none
    (c.forget.ensures.best ∙ c.totals-totals.ensures.value ∙ ap totals_in (sym c.forget.ensures.state))

pub returns-then-is_better-clause-better : goal.returns-then-is_better-clause-better
returns-then-is_better-clause-better c = λ is d of.
    let end = c.forget.new.self in
    let long : length end.saved.items ≡ length end.state.trees.items =
    c.forget.ensures.long ∙ of.long ∙ sym of.state.sets.one_each ∙ ap (λ (s : RoutingState). length (trees_of s)) (sym c.forget.ensures.state) in
    best_of-fresh end long c.forget.ensures.none
