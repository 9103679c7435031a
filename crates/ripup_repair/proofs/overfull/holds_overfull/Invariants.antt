use Rattle.std.proofs.Common.{◌≡◌, false, take}
use Rattle.ripup_repair.proofs.Common.{share_at, holds_overfull}
use Rattle.ripup_repair.proofs.overfull.holds_overfull.Given as goal

-- none of the pieces so far is overfull
abbrev pub invariant-loop-p : goal.invariant-loop-p
invariant-loop-p l = holds_overfull l.grid (λ e. share_at e l.share.party) (take l.p-index l.p-items) ≡ false
