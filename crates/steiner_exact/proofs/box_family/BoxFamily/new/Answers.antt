use Rattle.steiner_exact.proofs.BoxSteps.{box-family}
use Rattle.steiner_exact.proofs.box_family.BoxFamily.new.Goals as goal

pub invariant_of-result-clause-holds : goal.invariant_of-result-clause-holds
invariant_of-result-clause-holds g c =
    box-family c.args.size c.floors.result (g.W.Weights.pieces c.args.weights.now) c.args.terminals.now c.floors.ensures.below c.requires.terminals
