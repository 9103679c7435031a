use Rattle.std.proofs.Common.{◌≡◌}
use Rattle.sharing_phases.specs.PhaseWords.{empty_sets}
use Rattle.sharing_phases.proofs.sharing.no_sets.Given as goal

-- an empty set for each net so far
abbrev pub invariant-loop : goal.invariant-loop
invariant-loop l = l.sets.items ≡ empty_sets l.counter
