use Rattle.std.proofs.Common.{◌-◌}
use Rattle.label_search.proofs.sift.+sift_down.Given as goal

abbrev pub decreases-sift_down : goal.decreases-sift_down
decreases-sift_down l = l.len - l.gap
