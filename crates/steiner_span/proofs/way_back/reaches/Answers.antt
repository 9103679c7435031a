use Rattle.std.proofs.Common.{refl, arith}
use Rattle.std.proofs.lemmas.Bool.Decides.{nat_tests}
use Rattle.grid_graph.specs.Weighed.{IsAllowed}
use Rattle.steiner_span.proofs.way_back.reaches.Goals as goal

pub returns-then-allows : goal.returns-then-allows
returns-then-allows g c =
    let allowed : IsAllowed (g.W.Weights.pieces c.args.weights.now) c.args.by = c.if-allows.ensures.0 refl in (
      λ yes. record { weight = allowed.0; weighs = allowed.1; within = grind (arith, nat_tests, yes, c.number.ensures.number, c.weight.ensures.value allowed.0 allowed.1) },
      λ is. grind (arith, nat_tests, is.within, c.number.ensures.number, c.weight.ensures.value is.weight is.weighs),
    )
