use Rattle.std.proofs.Common.{◌≡◌, true, false, not, Bool, refl}
use Rattle.label_search.specs.Founds.{index_in}
use Rattle.label_search.proofs.row.Row.is_waiting.Goals as goal

empty : (b : Bool) → not b ≡ false → b ≡ true
empty true is = refl
empty false is = cc

pub returns-clause-none : goal.returns-clause-none
returns-clause-none c = λ is v key waits. c.is_empty.ensures.none (empty c.is_empty.result is) (index_in c.args.self.now.found v) key waits
