use Rattle.std.proofs.Common.{◌≡◌, length}
use Rattle.negotiation.proofs.tools.growths_for.Given as goal

-- one for each worker so far
abbrev pub invariant-loop : goal.invariant-loop
invariant-loop l = length l.growths.items ≡ l.counter
