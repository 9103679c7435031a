use Rattle.unavoidable_cli.proofs.FindingParts.{judged_routes}
use Rattle.unavoidable_cli.proofs.found.finding_of.Goals as goal

pub cuts_of-requires-clause-routes : goal.cuts_of-requires-clause-routes
cuts_of-requires-clause-routes g c = judged_routes c.args.grounded.design c.args.grounded.grounds.items c.args.blocks.now c.args.cert c.requires.judged
