use Rattle.std.proofs.Common.{take, All}
use Rattle.routing_state.specs.Overfull.{IsOverfull}
use Rattle.routing_state.proofs.overfull.holds_overfull.Given as goal

-- no piece so far is overfull
abbrev pub invariant-loop-p : goal.invariant-loop-p
invariant-loop-p l = All (λ p. ¬ IsOverfull l.grid l.rooms p) (take l.p-index l.p-items)
