use Rattle.std.proofs.Common.{false, subst, ⊎_elim, arith}
use Rattle.std.specs.Bool.{IsTrue}
use Rattle.least_weights.proofs.NearestLed.{found_more, found_same, found_all}
use Rattle.least_weights.proofs.nearest.found_goals.Goals as goal
use Rattle.least_weights.proofs.nearest.found_goals.Goals.{then-is_found_goal+in_ok-push, else-is_found_goal}

pub loop-terminal-preserved : goal.loop-terminal-preserved
loop-terminal-preserved c =
    let flat = c.args.flat.now in
    let terminals = c.args.terminals.now in
    let i = c.loop-terminal.terminal-index in
    let before = c.loop-terminal.invariant in
    elim c.if-is_found_goal.branch [
      | then-is_found_goal+in_ok-push w ↦ rw w.found-is (found_more c.args.size flat c.args.limit terminals c.args.here.0 i c.loop-terminal.found.items before
          c.loop-terminal-test.true w.push.new.self.items (c.is_found_goal.ensures.elsewhere w.if-is_found_goal.true) w.in_ok-push.ensures.items)
      | else-is_found_goal w ↦ rw w.found-is (found_same c.args.size flat c.args.limit terminals c.args.here.0 i c.loop-terminal.found.items before
          c.loop-terminal-test.true (λ elsewhere. ⊎_elim
          (λ yes. let clash : IsTrue false = subst IsTrue w.if-is_found_goal.false yes in cc)
          (λ none. none)
          (c.is_found_goal.ensures.others elsewhere)))
    ]

pub returns-clause-others : goal.returns-clause-others
returns-clause-others c v is =
    found_all c.args.size c.args.flat.now c.args.limit c.args.terminals.now c.args.here.0 c.loop-terminal.terminal-index c.loop-terminal.found.items
    (omega (arith, c.loop-terminal-test.false)) c.loop-terminal.invariant v is
