use Rattle.std.proofs.Common.{sym, arith}
use Rattle.load_table.proofs.ShortValues.{at-short, at-wide}
use Rattle.load_table.proofs.found.value_at.Goals as goal

pub returns-then-stood-eq0 : goal.returns-then-stood-eq0
returns-then-stood-eq0 c = record { value = sym (at-wide c.args.short.now c.args.wide.now c.args.word c.requires.word c.if-stood-eq0.true) }

pub returns-else-stood-eq0 : goal.returns-else-stood-eq0
returns-else-stood-eq0 c = record { value = omega (arith, c.from.ensures, at-short c.args.short.now c.args.wide.now c.args.word c.requires.word c.if-stood-eq0.false) }
