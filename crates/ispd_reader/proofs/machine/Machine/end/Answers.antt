use Rattle.ispd_reader.proofs.machine.Machine.end.Goals as goal

pub returns-clause-refusal : goal.returns-clause-refusal
returns-clause-refusal c = λ made stands. c.end.ensures.refusal made
