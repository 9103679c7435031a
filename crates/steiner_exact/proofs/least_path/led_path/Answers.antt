use Rattle.std.proofs.Common.{sym, ◌∙◌, subst}
use Rattle.grid_base.specs.declared.size.Size.{Size}
use Rattle.grid_base.specs.Numbers.{IsVertex}
use Rattle.grid_graph.specs.Weighed.{IsAllowed}
use Rattle.steiner_exact.proofs.LeastSets.{second_of, second_vertex}
use Rattle.steiner_exact.proofs.least_path.led_path.Goals as goal

pub new-bound-requires-clause-goal : goal.new-bound-requires-clause-goal
new-bound-requires-clause-goal g c =
    subst (λ (x : Size). IsVertex x (second_of c.args.terminals.now)) (sym (c.size-size.ensures ∙ c.requires.labels.grid))
    (second_vertex (g.W.Weights.size c.args.weights.now) (IsAllowed (g.W.Weights.pieces c.args.weights.now)) c.args.terminals.now c.requires.two c.requires.joined)
