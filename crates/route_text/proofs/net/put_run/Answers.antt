use Rattle.std.proofs.Common.{◌≡◌, ◌∙◌, sym, ap}
use Rattle.grid_base.specs.Lines.{edge_from}
use Rattle.grid_base.proofs.Lines.{edge_from-start_of}
use Rattle.route_text.proofs.net.put_run.Goals as goal
use Rattle.route_text.proofs.net.put_run.Goals.{After-ends_of}

-- the piece is the edge along the axis from where it starts
start_here : (g : _) (c : After-ends_of g) → c.args.piece ≡ edge_from c.args.axis c.ends_of.result.0.0
start_here g c =
    edge_from-start_of c.args.axis c.args.piece (sym c.is_along.ensures ∙ c.if-not-is_along.false) ∙ ap (edge_from c.args.axis) (sym c.ends_of.ensures.start)

pub begins_run-requires-clause-here : goal.begins_run-requires-clause-here
begins_run-requires-clause-here g c other = c.requires.here other ∙ start_here g (goal.at.begins_run-requires-clause-here g c).After-ends_of

pub run_end-requires-clause-here : goal.run_end-requires-clause-here
run_end-requires-clause-here g c other = c.requires.here other ∙ start_here g (goal.at.run_end-requires-clause-here g c).After-ends_of
