use Rattle.route_text.proofs.nearby.+holds_before.Given as goal

abbrev pub decreases-holds_before : goal.decreases-holds_before
decreases-holds_before l = l.turns
