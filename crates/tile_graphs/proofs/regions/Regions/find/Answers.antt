use Rattle.groups.proofs.Parents.{to_parent}
use Rattle.tile_graphs.proofs.regions.Regions.find.Goals as goal

pub returns-else-tile-len-clause-stay : goal.returns-else-tile-len-clause-stay
returns-else-tile-len-clause-stay c = to_parent c.args.self.now.groups.parents.items
