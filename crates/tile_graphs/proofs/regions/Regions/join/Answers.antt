use Rattle.std.proofs.Common.{ℕ, List, slice_index}
use Rattle.groups.specs.Joined.{AreJoinedBy, IsParentOr}
use Rattle.groups.proofs.Parents.{to_parent, with_pair}
use Rattle.tile_graphs.proofs.regions.Regions.join.Goals as goal

untouched : (parents : List ℕ) (one other : ℕ) → AreJoinedBy (IsParentOr parents one other) parents
untouched parents one other i within = with_pair parents one other i (slice_index parents i) (to_parent parents i within)

pub returns-else-one-tiles-clause-stay : goal.returns-else-one-tiles-clause-stay
returns-else-one-tiles-clause-stay c = untouched c.args.self.now.groups.parents.items c.args.one c.args.other
