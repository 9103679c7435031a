use Rattle.std.proofs.Common.{◌-◌, length, arith}
use Rattle.brought_bounds.proofs.Held.{power_small}
use Rattle.brought_bounds.proofs.holding.all_but_root.Goals as goal

pub returns : goal.returns
returns c = omega (arith, power_small (length c.args.terminals.now - 1) (omega (arith, c.requires.few)))
