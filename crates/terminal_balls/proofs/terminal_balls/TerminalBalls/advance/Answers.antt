use Rattle.std.proofs.Common.{sym, ◌∙◌, ap, subst}
use Rattle.shortest_paths.specs.declared.labels.Labels.{Labels}
use Rattle.shortest_paths.specs.LabelWords.{labels_size}
use Rattle.terminal_balls.specs.Growths.{AreKept, AreGrowing}
use Rattle.terminal_balls.proofs.Taking.{with_labels, kept_taken, growing_on}
use Rattle.terminal_balls.proofs.terminal_balls.TerminalBalls.advance.Goals as goal

pub relax-requires-clause-kept : goal.relax-requires-clause-kept
relax-requires-clause-kept g c =
    kept_taken c.args.self.now c.next.new.self c.args.self.now.radii c.in-Some.at.vertex.0 c.requires.kept c.requires.kept.small
    c.in-Some.ensures.next

pub returns-in-Some-clause-growing : goal.returns-in-Some-clause-growing
returns-in-Some-clause-growing g c = λ terminals.
    let w = c.args.weights.now in
    growing_on (g.W.Weights.size w) (g.W.Weights.pieces w) (g.W.FlooredWeights.over w) terminals c.args.self.now c.relax.new.self
    c.next.new.self c.in-Some.at.vertex.0 c.requires.kept c.in-Some.ensures.next c.relax.ensures.grow_on c.relax.ensures.relaxed

pub returns-in_default-clause-size : goal.returns-in_default-clause-size
returns-in_default-clause-size g c =
    ap (λ (l : Labels). labels_size l) (c.next.ensures.same c.in_default.is) ∙ c.requires.size

pub returns-in_default-clause-kept : goal.returns-in_default-clause-kept
returns-in_default-clause-kept g c =
    let old = c.args.self.now in
    subst (λ (l : Labels). AreKept (with_labels old l old.radii)) (sym (c.next.ensures.same c.in_default.is)) c.requires.kept

pub returns-in_default-clause-growing : goal.returns-in_default-clause-growing
returns-in_default-clause-growing g c = λ terminals growing.
    let w = c.args.weights.now in
    let old = c.args.self.now in
    subst (λ (l : Labels). AreGrowing (g.W.Weights.size w) (g.W.Weights.pieces w) (g.W.FlooredWeights.over w) terminals
    (with_labels old l old.radii)) (sym (c.next.ensures.same c.in_default.is)) growing
