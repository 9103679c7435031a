use Rattle.std.proofs.Common.{◌≡◌, map, take}
use Rattle.negotiation.proofs.order.short_first.Given as goal

-- the nets so far in their order
abbrev pub invariant-loop-x : goal.invariant-loop-x
invariant-loop-x l = l.order.items ≡ map (λ x. x.net) (take l.x-index l.x-items)
