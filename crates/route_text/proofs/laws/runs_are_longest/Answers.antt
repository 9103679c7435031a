use Rattle.tree_set.proofs.Runs as runs
use Rattle.route_text.proofs.laws.runs_are_longest.Goals as goal

pub returns : goal.returns
returns c = record { longest = runs.runs_are_longest }
