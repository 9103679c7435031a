use Rattle.judge_laws.proofs.WrittenBlocks.{written_are_routes, written_sets}
use Rattle.judge_laws.proofs.WrittenRanges.{written_can_be_judged}
use Rattle.judge_laws.proofs.laws.written_routes_are_accepted.Goals as goal

pub returns-clause-routes : goal.returns-clause-routes
returns-clause-routes c = λ d trees rising joining. written_are_routes d trees (record { rising = rising; joining = joining })

pub returns-clause-sets : goal.returns-clause-sets
returns-clause-sets c = λ d trees rising joining. written_sets d trees (record { rising = rising; joining = joining })

pub returns-clause-blocks : goal.returns-clause-blocks
returns-clause-blocks c = λ d trees borders rising joining. written_can_be_judged d trees borders (record { rising = rising; joining = joining })
