use Rattle.reference_programs.proofs.listed.Listed.pieces.Goals as goal

pub returns-clause-inside : goal.returns-clause-inside
returns-clause-inside c = rw c.as_slice.ensures.value c.args.self.now.inside

pub returns-clause-light : goal.returns-clause-light
returns-clause-light c = rw c.as_slice.ensures.value c.args.self.now.light
