-- What a step of the judge answers.
use Rattle.std.specs.Prelude.{List, Some, None, Result, Ok, Err}
use Rattle.grid_graph.specs.declared.design.Design.{Design}
use Rattle.route_judge.specs.declared.stop.Stop.{Stop}
use Rattle.route_judge.specs.declared.stop.Stop.TheVariants.{Refused, NoMemory}
use Rattle.route_judge.specs.Objections.{Objection, Finds}

-- why it stopped: at the first of the objections that applies; want of memory has no cause
abbrev pub StopsFor : Design → List Objection → Stop → Type 0
StopsFor d objections (Refused reason) = Finds d objections (Some reason)
StopsFor d objections NoMemory = Unit {0}

-- the step went through where none of the objections applies, and else it stopped at the first that does
abbrev pub StopsAt : {X : Type 0} → Design → List Objection → Result X Stop → Type 0
StopsAt d objections (Ok x) = Finds d objections None
StopsAt d objections (Err stop) = StopsFor d objections stop
