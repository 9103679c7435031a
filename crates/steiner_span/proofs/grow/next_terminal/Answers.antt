use Rattle.std.proofs.Common.{false, refl, ⊎_elim, arith}
use Rattle.std.proofs.lemmas.Bool.{cases_lt}
use Rattle.std.specs.Bool.{IsTrue}
use Rattle.grid_base.specs.Walks.{InVertices}
use Rattle.shortest_paths.specs.LabelWords.{labels_number}
use Rattle.steiner_span.proofs.Growing.{relaxed_growing, falls_on}
use Rattle.steiner_span.proofs.grow.next_terminal.Goals as goal

pub take-at-requires-in-loop-labels-clause-growing : goal.take-at-requires-in-loop-labels-clause-growing
take-at-requires-in-loop-labels-clause-growing g c =
    let terminals = c.args.terminals.now in
    let first = c.loop-labels.invariant.fell.to.go_on.first terminals c.args.count c.requires.terminals in
    relaxed_growing (g.W.Weights.size c.args.weights.now) (g.W.Weights.pieces c.args.weights.now) (InVertices terminals) (g.B.Bound.rest c.args.bound.now) c.loop-labels.labels c.relax.new.labels c.loop-labels.at.vertex.0
    c.loop-labels.invariant.taken (λ terminal above. let yes : IsTrue false = c.loop-labels-test.ensures.1 (first.first c.loop-labels.at.vertex.0 terminal, above) in cc)
    c.relax.ensures.keys c.relax.ensures.relaxes_on c.relax.ensures.relaxed

pub take-at-requires-in-loop-labels-clause-source : goal.take-at-requires-in-loop-labels-clause-source
take-at-requires-in-loop-labels-clause-source g c =
    let v = c.requires.source.0 in
    (v, c.requires.source.1, omega (arith, c.requires.source.2, c.loop-labels.invariant.fell.to.falls v, c.relax.ensures.relaxes_on.fell.to.falls v))

pub take-at-requires-in-loop-labels-clause-goal : goal.take-at-requires-in-loop-labels-clause-goal
take-at-requires-in-loop-labels-clause-goal g c =
    let v = c.requires.goal.0 in (
      v,
      c.requires.goal.1,
      ⊎_elim
          (λ above. above)
          (λ none. let zero = c.loop-labels.invariant.fell.zeros v (c.relax.ensures.relaxes_on.fell.zeros v (omega (arith, none))) in absurd (omega (arith, zero, c.requires.goal.2)))
          (cases_lt 0 (labels_number c.relax.new.labels v)),
    )

pub loop-labels-preserved : goal.loop-labels-preserved
loop-labels-preserved g c =
    let before = c.loop-labels.invariant in
    let after = c.take-at-in-loop-labels.ensures in
    let fell = falls_on c.args.labels.now c.loop-labels.labels c.relax.new.labels before.fell c.relax.ensures.relaxes_on.fell in
    record {
      spot = after.spot;
      taken = after.taken;
      fell = falls_on c.args.labels.now c.relax.new.labels c.take-at-in-loop-labels.new.labels fell after.fell;
      less = omega (arith, before.less, c.relax.ensures.relaxes_on.fell.to.less, after.less);
    }

pub returns-clause-terminal : goal.returns-clause-terminal
returns-clause-terminal g c =
    let first = c.loop-labels.invariant.fell.to.go_on.first c.args.terminals.now c.args.count c.requires.terminals in
    first.in_list c.loop-labels.at.vertex.0 (c.loop-labels-test.ensures.0 refl).0

pub is_unreached-requires-clause-count : goal.is_unreached-requires-clause-count
is_unreached-requires-clause-count g c = (c.loop-labels.invariant.fell.to.go_on.first c.args.terminals.now c.args.count c.requires.terminals).room
