use Rattle.tree_set.specs.Loads.{load}
use Rattle.router_cli.proofs.certificate.measured.Goals as goal

pub returns-in-Some-clause-peak : goal.returns-in-Some-clause-peak
returns-in-Some-clause-peak c =
    let d = c.args.design.now in
    let measure = c.in_ok-measure.ensures in
    let greatest = c.with_budget.ensures.greatest d.grid (load d.grid d.nets c.args.trees.now) measure.peak in
    rw c.in-Some.is (rw measure.wirelength at greatest)
