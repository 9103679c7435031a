use Rattle.route_text.proofs.nearby.+find_behind.Given as goal

abbrev pub decreases-find_behind : goal.decreases-find_behind
decreases-find_behind l = l.turns
