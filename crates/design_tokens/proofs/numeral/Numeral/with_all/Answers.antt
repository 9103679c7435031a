use Rattle.std.proofs.Common.{sym}
use Rattle.design_tokens.proofs.Numerals.{other_stays}
use Rattle.design_tokens.proofs.numeral.Numeral.with_all.Goals as goal

pub returns-in-Other : goal.returns-in-Other
returns-in-Other c = rw c.in-Other.is (sym (other_stays c.args.bytes.now))
