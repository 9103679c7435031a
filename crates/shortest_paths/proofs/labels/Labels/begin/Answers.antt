use Rattle.shortest_paths.proofs.labels.Labels.begin.Goals as goal

pub returns-clause-idle : goal.returns-clause-idle
returns-clause-idle c = λ v key waits. c.forget-2.ensures.idle v key (c.find_first.ensures.waits v key waits)
