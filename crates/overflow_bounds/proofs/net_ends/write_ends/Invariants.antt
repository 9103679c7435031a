use Rattle.std.proofs.Common.{◌≡◌, All, length}
use Rattle.overflow_bounds.specs.NetEnds.{IsNodeOfSome}
use Rattle.overflow_bounds.proofs.net_ends.write_ends.Given as goal

-- a node for each terminal so far
abbrev pub invariant-loop-terminal : goal.invariant-loop-terminal
invariant-loop-terminal l = record {
  long : length l.ends.items ≡ l.terminal-index;
  each : All (IsNodeOfSome l.fn.size l.nodes l.terminals) l.ends.items;
}
