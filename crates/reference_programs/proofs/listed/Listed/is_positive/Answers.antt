use Rattle.reference_programs.proofs.listed.Listed.is_positive.Goals as goal

pub returns : goal.returns
returns c = rw c.as_slice.ensures.value at c.are_positive.ensures
