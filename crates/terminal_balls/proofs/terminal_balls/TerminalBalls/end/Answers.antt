use Rattle.std.proofs.Common.{sym, ap, subst, arith}
use Rattle.shortest_paths.specs.declared.labels.Labels.{Labels}
use Rattle.shortest_paths.specs.LabelWords.{labels_size, labels_number}
use Rattle.terminal_balls.specs.Growths.{AreKept}
use Rattle.terminal_balls.proofs.Taking.{with_labels, kept_taken, ended}
use Rattle.terminal_balls.proofs.terminal_balls.TerminalBalls.end.Goals as goal

pub returns-in-Some-clause-kept : goal.returns-in-Some-clause-kept
returns-in-Some-clause-kept c =
    let kept = c.requires.kept in
    kept_taken c.args.self.now c.next.new.self c.cut_at-self.result c.in-Some.at.vertex.0 kept
    (λ place. omega (arith, c.cut_at-self.ensures place, kept.small place)) c.in-Some.ensures.next

pub returns-in-Some-clause-balls : goal.returns-in-Some-clause-balls
returns-in-Some-clause-balls c = λ s pieces over terminals.
    let kept = c.requires.kept in
    let taken = c.in-Some.ensures.next in
    let at = c.in-Some.at.vertex.0 in
    ended s pieces over terminals c.args.self.now c.next.new.self c.cut_at-self.result kept taken.numbers
    (λ place. omega (arith, c.cut_at-self.ensures place))
    (λ v held place. omega (
      arith,
      c.cut_at-self.ensures place,
      c.number-least.ensures.number,
      taken.numbers at,
      kept.keys at taken.least.key taken.least.has,
      taken.least.least v held.0 held.1,
      kept.keys v held.0 held.1,
    ))

pub returns-in_default-clause-size : goal.returns-in_default-clause-size
returns-in_default-clause-size c = ap (λ (l : Labels). labels_size l) (c.next.ensures.same c.in_default.is)

pub returns-in_default-clause-kept : goal.returns-in_default-clause-kept
returns-in_default-clause-kept c =
    let old = c.args.self.now in
    subst (λ (l : Labels). AreKept (with_labels old l old.radii)) (sym (c.next.ensures.same c.in_default.is)) c.requires.kept

pub returns-in_default-clause-balls : goal.returns-in_default-clause-balls
returns-in_default-clause-balls c = λ s pieces over terminals.
    let old = c.args.self.now in
    ended s pieces over terminals old c.next.new.self old.radii c.requires.kept
    (λ v. ap (λ (l : Labels). labels_number l v) (c.next.ensures.same c.in_default.is)) (λ place. omega arith)
    (λ v held place. absurd (c.next.ensures.none c.in_default.is v held.0 held.1))
