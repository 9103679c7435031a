use Rattle.std.proofs.Common.{◌+◌, ◌*◌, length}
use Rattle.negotiation.proofs.searching.+fn-search_side_by_side-join+arg2+fn-search_side_by_side-join+arg3+search_side_by_side.Given as goal

abbrev pub decreases-join+arg2 : goal.decreases-join+arg2
decreases-join+arg2 g l = 2 * length l.few.now + 1

abbrev pub decreases-join+arg3 : goal.decreases-join+arg3
decreases-join+arg3 g l = 2 * length l.more.now + 1

abbrev pub decreases-search_side_by_side : goal.decreases-search_side_by_side
decreases-search_side_by_side g l = 2 * length l.growths.now
