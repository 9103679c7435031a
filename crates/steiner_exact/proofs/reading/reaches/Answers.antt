use Rattle.std.proofs.Common.{◌≡◌, refl, arith}
use Rattle.std.proofs.lemmas.Bool.Decides.{nat_tests}
use Rattle.grid_graph.specs.Weighed.{IsAllowed}
use Rattle.shortest_paths.specs.LabelWords.{label_of}
use Rattle.steiner_tables.proofs.FoundNumbers.{found_number}
use Rattle.steiner_exact.proofs.reading.reaches.Goals as goal

pub returns-then-allows : goal.returns-then-allows
returns-then-allows g c =
    let allowed : IsAllowed (g.W.Weights.pieces c.args.weights.now) c.args.by = c.if-allows.ensures.0 refl in
    let least : c.in-Some.least ≡ label_of c.args.labels.now c.args.mask c.args.before.0 = found_number _ c.in-Some.least c.in-Some.ensures in (
      λ yes. record { weight = allowed.0; weighs = allowed.1; within = grind (arith, nat_tests, yes, least, c.weight.ensures.value allowed.0 allowed.1) },
      λ is. grind (arith, nat_tests, is.within, least, c.weight.ensures.value is.weight is.weighs),
    )
