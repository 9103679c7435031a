use Rattle.std.proofs.Common.{◌+◌, ◌*◌, ◌-◌}
use Rattle.routing_passes.proofs.workers.+fn-route_parts-join+arg2+fn-route_parts-join+arg3+route_parts.Given as goal

abbrev pub decreases-join+arg2 : goal.decreases-join+arg2
decreases-join+arg2 g l = 2 * (l.middle - l.first) + 1

abbrev pub decreases-join+arg3 : goal.decreases-join+arg3
decreases-join+arg3 g l = 2 * (l.last - l.middle) + 1

abbrev pub decreases-route_parts : goal.decreases-route_parts
decreases-route_parts g l = 2 * (l.last - l.first)
