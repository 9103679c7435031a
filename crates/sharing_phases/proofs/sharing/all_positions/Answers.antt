use Rattle.std.proofs.Common.{◌≡◌, ◌+◌, arith}
use Rattle.routing_passes.proofs.Ranges.{range-append}
use Rattle.sharing_phases.proofs.sharing.all_positions.Goals as goal

pub loop-position-preserved : goal.loop-position-preserved
loop-position-preserved c =
    let n = c.loop-position.position in
    let place : 0 + n ≡ n = omega arith in
    rw (c.in_ok-push.ensures.items, c.loop-position.invariant) (rw place at (range-append 0 n 1))
