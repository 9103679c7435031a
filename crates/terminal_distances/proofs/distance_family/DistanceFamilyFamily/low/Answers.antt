use Rattle.std.proofs.Common.{ℕ, ◌≡◌, ◌+◌, ◌-◌, ◌≤◌, sym, ap, ◌∙◌, arith}
use Rattle.std.proofs.lemmas.Bool.Decides.{nat_tests}
use Rattle.shortest_paths.specs.LabelWords.{label_of}
use Rattle.terminal_distances.specs.DistanceLows.{distance_low}
use Rattle.terminal_distances.proofs.DistanceLaws.{distance_low-more, distance_low-none}
use Rattle.terminal_distances.proofs.distance_family.DistanceFamilyFamily.low.Goals as goal
use Rattle.terminal_distances.proofs.distance_family.DistanceFamilyFamily.low.Goals.{then-has_terminal, else-has_terminal}

pub loop-terminal-init : goal.loop-terminal-init
loop-terminal-init g c =
    let x = c.args.self.now in
    record {
      value = c.low-low.ensures.value
          ∙ sym (distance_low-none (g.B.Family.terminals x.bounds.now) (g.B.Family.low x.bounds.now) x.limit (label_of x.labels.now)
          x.first c.args.mask c.args.v.0);
      within = c.low-low.ensures.limit;
      reached = omega arith;
    }

pub loop-terminal-preserved : goal.loop-terminal-preserved
loop-terminal-preserved g c =
    let x = c.args.self.now in
    let before = c.loop-terminal.invariant in
    let more = distance_low-more (g.B.Family.terminals x.bounds.now) (g.B.Family.low x.bounds.now) x.limit (label_of x.labels.now)
    x.first c.loop-terminal.terminal c.args.mask c.args.v.0 (omega (arith, c.loop-terminal.auto.terminal)) in
    elim c.if-has_terminal.branch [
      | then-has_terminal w ↦ rw w.low-is (record {
        value = grind (
          arith,
          nat_tests,
          more,
          c.has_terminal.ensures,
          w.if-has_terminal.true,
          before.value,
          w.distance.ensures.value,
          w.max-low.ensures,
        );
        within = omega (arith, before.within, w.distance.ensures.limit, w.max-low.ensures);
        reached = omega (arith, c.loop-terminal-test.true);
      })
      | else-has_terminal w ↦ rw w.low-is (record {
        value = grind (arith, nat_tests, more, c.has_terminal.ensures, w.if-has_terminal.false, before.value);
        within = before.within;
        reached = omega (arith, c.loop-terminal-test.true);
      })
    ]

pub returns-clause-value : goal.returns-clause-value
returns-clause-value g c =
    let x = c.args.self.now in
    let all : c.loop-terminal.terminal - x.first ≡ x.end - x.first = omega (arith, c.loop-terminal-test.false, c.loop-terminal.auto.terminal, c.loop-terminal.invariant.reached) in
    c.loop-terminal.invariant.value
    ∙ ap (λ n. distance_low (g.B.Family.terminals x.bounds.now) (g.B.Family.low x.bounds.now) x.limit (label_of x.labels.now) x.first n
    c.args.mask c.args.v.0) all
