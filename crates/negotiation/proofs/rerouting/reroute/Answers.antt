use Rattle.std.proofs.Common.{inl, sym, ◌∙◌}
use Rattle.negotiation.proofs.Outcome.{rerouted}
use Rattle.negotiation.proofs.rerouting.reroute.Goals as goal

pub returns : goal.returns
returns g c =
    rerouted c.args.design.now c.args.given.items c.args.missing.now c.args.settings.now c.in_ok-first.first c.begin.new.state c.in_ok-state.state c.descend.new.state c.outcome.result
    c.requires.given c.in_ok-first.ensures.state c.in_ok-first.ensures.trees c.in_ok-begin.ensures.renewed c.in_ok-begin.ensures.no_worse
    c.in_ok-state.ensures.improved c.in_ok-descend.ensures.improved c.outcome.ensures.trees c.outcome.ensures.overflow c.outcome.ensures.wirelength
    (rw c.outcome.ensures.rounds c.in_ok-state.ensures.rounds)
    (λ no_pass. c.in_ok-begin.ensures.kept (inl no_pass)) (λ none. c.in_ok-state.ensures.idle (sym c.outcome.ensures.rounds ∙ none)) c.in_ok-descend.ensures.idle (rw c.outcome.ensures.rounds c.in_ok-state.ensures.enough)
