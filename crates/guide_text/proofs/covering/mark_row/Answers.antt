use Rattle.guide_text.proofs.covering.mark_row.Goals as goal

pub returns-in-Some : goal.returns-in-Some
returns-in-Some c = rw c.in-Some.ensures.number at c.mark_numbers.ensures
