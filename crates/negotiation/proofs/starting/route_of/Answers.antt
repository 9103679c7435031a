use Rattle.negotiation.proofs.starting.route_of.Goals as goal

pub returns-in-Some : goal.returns-in-Some
returns-in-Some c = record { route = rw c.in-Some.is at c.requires.found }
