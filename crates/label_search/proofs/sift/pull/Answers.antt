use Rattle.label_search.proofs.Gaps.{pulled_keeps, pulled_only}
use Rattle.label_search.proofs.sift.pull.Goals as goal

pub returns-clause-kept : goal.returns-clause-kept
returns-clause-kept c =
    pulled_keeps c.args.keys.now c.args.vertices.now c.args.places.now c.args.len c.args.gap c.args.from c.args.vertex
    c.requires.gap c.requires.inside c.requires.other

pub returns-clause-only : goal.returns-clause-only
returns-clause-only c =
    pulled_only c.args.keys.now c.args.vertices.now c.args.places.now c.args.len c.args.gap c.args.from c.args.vertex
    c.requires.gap c.requires.inside c.requires.other
