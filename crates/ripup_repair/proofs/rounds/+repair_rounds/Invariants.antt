use Rattle.ripup_repair.proofs.rounds.+repair_rounds.Given as goal

-- a round less is left
abbrev pub decreases-repair_rounds : goal.decreases-repair_rounds
decreases-repair_rounds g l = l.left.rounds
