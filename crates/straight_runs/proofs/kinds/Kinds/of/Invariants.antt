use Rattle.std.proofs.Common.{◌≡◌, ◌+◌, length}
use Rattle.straight_runs.proofs.kinds.Kinds.of.Given as goal

-- each run so far is one of a kind
abbrev pub invariant-loop-number : goal.invariant-loop-number
invariant-loop-number l = length l.kinds.rows.items + length l.kinds.uprights.items + length l.kinds.stacks.items ≡ l.number
