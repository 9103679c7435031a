use Rattle.reroute_cli.proofs.given.read_given.Goals as goal

pub returns-in-Some-clause-are_read : goal.returns-in-Some-clause-are_read
returns-in-Some-clause-are_read g c = rw c.in-Some.is c.read_routed.ensures.are_read

pub returns-in-Some-clause-reads : goal.returns-in-Some-clause-reads
returns-in-Some-clause-reads g c = rw c.in-Some.is c.read_routed.ensures.reads

pub returns-in-None-clause-are_read : goal.returns-in-None-clause-are_read
returns-in-None-clause-are_read g c = rw c.in-None.is c.read_alone.ensures.are_read

pub returns-in-None-clause-reads : goal.returns-in-None-clause-reads
returns-in-None-clause-reads g c = rw c.in-None.is c.read_alone.ensures.reads
