use Rattle.std.proofs.Common.{◌∙◌, arith}
use Rattle.shortest_paths.specs.LabelWords.{labels_number}
use Rattle.steiner_span.proofs.Growing.{falls_to}
use Rattle.steiner_span.proofs.Reaching.{still_grown}
use Rattle.steiner_span.proofs.grow.grow_to.Goals as goal

pub next_terminal-at-requires-clause-terminals : goal.next_terminal-at-requires-clause-terminals
next_terminal-at-requires-clause-terminals g c = c.loop-goal.invariant.fell.go_on.first c.args.terminals.now c.args.count c.requires.terminals

pub reach-requires-clause-grown : goal.reach-requires-clause-grown
reach-requires-clause-grown g c =
    still_grown (g.W.Weights.size c.args.weights.now) (g.W.Weights.pieces c.args.weights.now) c.args.terminals.now (labels_number c.loop-goal.labels) (labels_number c.next_terminal-at.new.labels) c.loop-goal.grown.items
    c.next_terminal-at.ensures.fell.to.falls c.next_terminal-at.ensures.fell.zeros c.loop-goal.invariant.grown

pub reach-requires-clause-left : goal.reach-requires-clause-left
reach-requires-clause-left g c = λ v terminal above. c.loop-goal.invariant.left v terminal (omega (arith, above, c.next_terminal-at.ensures.fell.to.falls v))

pub loop-goal-preserved : goal.loop-goal-preserved
loop-goal-preserved g c =
    let before = c.loop-goal.invariant in
    let next = c.next_terminal-at.ensures in
    let after = c.in_ok-reach.ensures in
    let new = c.reach.new.labels in
    record {
      ahead_size = after.ahead_size ∙ before.ahead_size;
      ahead = after.ahead ∙ before.ahead;
      left = after.left;
      growing = after.growing;
      grown = after.grown;
      fell = falls_to c.args.labels.now c.next_terminal-at.new.labels new (falls_to c.args.labels.now c.loop-goal.labels c.next_terminal-at.new.labels before.fell next.fell.to) after.fell;
    }
