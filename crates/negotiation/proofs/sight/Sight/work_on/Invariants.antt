use Rattle.std.proofs.Common.{◌≡◌, ◌-◌, ◌^◌, take}
use Rattle.std.specs.Prelude.{min}
use Rattle.std.specs.List.{sum_by}
use Rattle.negotiation.specs.Work.{work_on_net}
use Rattle.negotiation.proofs.sight.Sight.work_on.Given as goal

-- the work so far
abbrev pub invariant-loop-net : goal.invariant-loop-net
invariant-loop-net l = l.work ≡ min (sum_by (work_on_net l.self) (take l.net-index l.nets)) (2 ^ 64 - 1)
