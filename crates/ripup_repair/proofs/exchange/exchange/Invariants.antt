use Rattle.std.proofs.Common.{◌≡◌, ◌++◌, take, drop}
use Rattle.ripup_repair.proofs.Common.{at_positions, with_elements}
use Rattle.ripup_repair.proofs.exchange.exchange.Given as goal

-- the sets at the positions so far are exchanged
abbrev pub invariant-loop-i : goal.invariant-loop-i
invariant-loop-i l = record {
  trees : l.trees ≡ with_elements l.initial.trees (take l.i l.positions) (take l.i l.initial.sets);
  sets : l.sets ≡ at_positions l.initial.trees (take l.i l.positions) ++ drop l.i l.initial.sets;
}
