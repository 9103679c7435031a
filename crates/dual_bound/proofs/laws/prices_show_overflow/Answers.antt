use Rattle.dual_bound.proofs.Overfull.{overflows}
use Rattle.dual_bound.proofs.laws.prices_show_overflow.Goals as goal

pub returns : goal.returns
returns c d prices price total trees are greatest is routing = overflows d prices price total trees are greatest is routing
