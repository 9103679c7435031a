use Rattle.std.proofs.Common.{arith}
use Rattle.label_search.proofs.Held.{read}
use Rattle.label_search.proofs.Order.{root_least}
use Rattle.label_search.proofs.heap.Heap.least.Goals as goal

pub returns-clause-least : goal.returns-clause-least
returns-clause-least c =
    let s = c.args.self.now in
    λ u k held. omega (arith, read s.keys.items 0 _ (omega arith) c.index.ensures, root_least s.keys.items s.len held.place s.ordered held.inside, held.valued)
