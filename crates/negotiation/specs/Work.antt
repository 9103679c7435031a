-- How much work searches are.
use Rattle.std.specs.Prelude.{ℕ, ◌+◌, [], length, slice_index_or}
use Rattle.negotiation.specs.declared.sight.Sight.{Sight}

-- that for the net at this place: the pieces of its set, and eight more
abbrev pub work_on_net : Sight → ℕ → ℕ
work_on_net s net = length (slice_index_or s.trees.now net []) + 8
