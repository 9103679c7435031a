use Rattle.steiner_exact.proofs.reading.+read_part.Given as goal

abbrev pub decreases-read_part : goal.decreases-read_part
decreases-read_part g l = l.mask
