use Rattle.std.proofs.Common.{◌≡◌, All, length, None}
use Rattle.routing_state.proofs.rerouting.Rerouting.of.Given as goal

-- nothing is saved for the nets so far
abbrev pub invariant-loop : goal.invariant-loop
invariant-loop l = record {
  long : length l.saved.items ≡ l.counter;
  none : All (λ set. set ≡ None) l.saved.items;
}
