use Rattle.steiner_exact.proofs.EdgeLists.{edges_with-once, edges_with-inside, edges_with-within, edges_with-under}
use Rattle.steiner_exact.proofs.flat_weights.FlatWeights.new.Goals as goal

pub invariant_of-result-clause-once : goal.invariant_of-result-clause-once
invariant_of-result-clause-once g c = edges_with-once c.args.size (g.W.FlooredWeights.over c.args.weights.now)

pub invariant_of-result-clause-inside : goal.invariant_of-result-clause-inside
invariant_of-result-clause-inside g c = edges_with-inside c.args.size (g.W.FlooredWeights.over c.args.weights.now)

pub invariant_of-result-clause-small : goal.invariant_of-result-clause-small
invariant_of-result-clause-small g c =
    edges_with-within c.args.size (g.W.FlooredWeights.over c.args.weights.now) (g.met.W.FlooredWeights.under c.args.weights.now).within

pub invariant_of-result-clause-under : goal.invariant_of-result-clause-under
invariant_of-result-clause-under g c =
    edges_with-under c.args.size (g.W.Weights.size c.args.weights.now) (g.W.FlooredWeights.over c.args.weights.now) c.requires.flat (g.met.W.FlooredWeights.under c.args.weights.now).within
