-- Searches that a caller leads.
use Rattle.std.proofs.Common.{ℕ, ◌≤◌}
use Rattle.shortest_paths.specs.declared.labels.Labels.{Labels}
use Rattle.label_search.specs.Founds.{index_in}
use Rattle.shortest_paths.specs.LabelWords.{labels_number}
use Rattle.label_search.specs.Stamped.{far}

-- no number is above the one of what has none
pub number_within : (l : Labels) (v : ℕ) → labels_number l v ≤ far
number_within l v = l.row.parts.limits (index_in l.row.found v)
