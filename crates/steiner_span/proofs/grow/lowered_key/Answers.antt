use Rattle.steiner_span.proofs.grow.lowered_key.Goals as goal

pub returns-in-None-clause-waits : goal.returns-in-None-clause-waits
returns-in-None-clause-waits g c = λ k waits. absurd (c.key.ensures.none c.in-None.is k waits)
