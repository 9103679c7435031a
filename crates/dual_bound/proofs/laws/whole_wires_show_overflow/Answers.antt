use Rattle.dual_bound.proofs.Overfull.{whole_overflows}
use Rattle.dual_bound.proofs.laws.whole_wires_show_overflow.Goals as goal

pub returns : goal.returns
returns c d prices units most lows trees are in_units greatest low routing = whole_overflows d prices units most lows trees are in_units greatest low routing
