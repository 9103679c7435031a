use Rattle.std.proofs.Common.{◌≡◌, length}
use Rattle.net_search.proofs.labels.Labels.new.Given as goal

abbrev pub invariant-loop-v : goal.invariant-loop-v
invariant-loop-v l = length l.labels.items ≡ length l.initial.labels.items
