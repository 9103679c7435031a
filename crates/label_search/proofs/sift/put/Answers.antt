use Rattle.label_search.proofs.Gaps.{filled}
use Rattle.label_search.proofs.sift.put.Goals as goal

pub returns-clause-filled : goal.returns-clause-filled
returns-clause-filled c =
    filled c.args.keys.now c.args.vertices.now c.args.places.now c.args.len c.args.gap c.args.vertex c.args.key c.requires
