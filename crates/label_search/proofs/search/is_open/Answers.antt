use Rattle.std.proofs.Common.{arith}
use Rattle.std.proofs.lemmas.Bool.Decides.{nat_tests}
use Rattle.label_search.proofs.search.is_open.Goals as goal

pub returns-in-Some-clause-closed : goal.returns-in-Some-clause-closed
returns-in-Some-clause-closed c =
    λ closed v key held. grind (arith, nat_tests, closed, c.in-Some.ensures.least v key held, c.number.ensures.number)

pub returns-in-None-clause-closed : goal.returns-in-None-clause-closed
returns-in-None-clause-closed c = λ closed v key held. absurd (c.in-None.ensures.none v key held)
