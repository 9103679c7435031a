use Rattle.tree_set.proofs.PeaksWith.{greatest_with}
use Rattle.tree_set.proofs.measure.Measure.with_budget.Goals as goal

pub returns-clause-greatest : goal.returns-clause-greatest
returns-clause-greatest c g load peak =
    greatest_with g load c.args.self.now.wirelength c.args.most c.args.self.now.peak c.greater_of.result c.requires.budget.0 peak c.greater_of.ensures
