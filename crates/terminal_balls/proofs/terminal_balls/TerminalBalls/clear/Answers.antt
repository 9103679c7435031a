use Rattle.std.proofs.Common.{sym, ◌∙◌, ap, arith}
use Rattle.grid_base.specs.declared.size.Size.{Size}
use Rattle.grid_base.specs.Numbers.{vertices}
use Rattle.terminal_balls.proofs.MaskSums.{zeros}
use Rattle.terminal_balls.proofs.terminal_balls.TerminalBalls.clear.Goals as goal

pub returns-clause-kept : goal.returns-clause-kept
returns-clause-kept c = record {
  owners = c.requires.grid.owners ∙ ap (λ (s : Size). vertices s) (sym c.begin.ensures.size);
  few = c.requires.grid.few;
  small = λ place. omega (arith, zeros 5 place);
  keys = λ v key held. absurd (c.begin.ensures.idle v key held);
}
