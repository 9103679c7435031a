use Rattle.std.proofs.Common.{◌≡◌, ◌+◌, ◌<◌, slice_index, sym, ◌∙◌, subst, arith}
use Rattle.std.proofs.lemmas.Grind.{get_or_default_zero}
use Rattle.shortest_paths.specs.LabelWords.{labels_size, labels_number}
use Rattle.grid_base.specs.Numbers.{vertices}
use Rattle.terminal_balls.specs.Balls.{balls_of, beyond}
use Rattle.terminal_balls.specs.Growths.{IsMet}
use Rattle.terminal_balls.proofs.terminal_balls.TerminalBalls.relax.Goals as goal

pub returns-then-reached-self-clause-relaxed : goal.returns-then-reached-self-clause-relaxed
returns-then-reached-self-clause-relaxed g c = λ within p k b weighs connects.
    let s = g.W.Weights.size c.args.weights.now in
    let over = g.W.FlooredWeights.over c.args.weights.now in
    let from = c.args.from.vertex.0 in
    let old = c.args.self.now in
    let new = c.offer_each.new.self in
    let same = c.offer_each.ensures.same in
    let inside : from < vertices (labels_size old.labels) = rw c.requires.size c.requires.from.vertex in
    let owner : slice_index new.owners.items from ≡ c.index-owner.result.now = same.1 ∙ sym (c.index-owner.ensures
    ∙ get_or_default_zero old.owners.items from c.index-owner.result.now (omega (arith, inside, c.requires.kept.owners))) in
    let number : labels_number new.labels from ≡ c.number-reached.result = same.0 ∙ sym c.number-reached.ensures.number in
    subst (λ o. IsMet (balls_of new) o (labels_number new.labels from + beyond s over p k) b) (sym owner)
    (subst (λ n. IsMet (balls_of new) c.index-owner.result.now (n + beyond s over p k) b) (sym number)
    (c.offer_each.ensures.met p k b weighs connects))
