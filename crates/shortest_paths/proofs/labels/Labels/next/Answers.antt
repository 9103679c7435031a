use Rattle.shortest_paths.proofs.labels.Labels.next.Goals as goal

pub returns-else-is_waiting-clause-none : goal.returns-else-is_waiting-clause-none
returns-else-is_waiting-clause-none c = λ none v key waits. c.is_waiting.ensures.none c.if-is_waiting.false v key waits
