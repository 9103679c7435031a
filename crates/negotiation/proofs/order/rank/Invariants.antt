use Rattle.std.proofs.Common.{◌≡◌, map, take}
use Rattle.negotiation.proofs.order.rank.Given as goal

-- the nets so far were ranked
abbrev pub invariant-loop-net : goal.invariant-loop-net
invariant-loop-net l = map (λ x. x.net) l.ranked.items ≡ take l.net-index l.nets
