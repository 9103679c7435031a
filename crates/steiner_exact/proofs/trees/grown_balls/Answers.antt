use Rattle.std.proofs.Common.{subst}
use Rattle.grid_base.specs.declared.size.Size.{Size}
use Rattle.terminal_balls.specs.Balls.{AreInGrid}
use Rattle.steiner_exact.proofs.trees.grown_balls.Goals as goal
use Rattle.steiner_exact.proofs.trees.grown_balls.Goals.{in-Some, in-None+in_ok-balls-in-None}

pub grow-requires-clause-grid : goal.grow-requires-clause-grid
grow-requires-clause-grid g c =
    elim c.match-kept.branch [
      | in-Some w ↦ rw w.balls-is (c.requires.kept w.in-Some.balls w.in-Some.is)
      | in-None+in_ok-balls-in-None w ↦
          rw w.balls-is (subst (λ (x : Size). AreInGrid x w.in_ok-balls-in-None.balls) c.requires.size w.in_ok-balls-in-None.ensures)
    ]
