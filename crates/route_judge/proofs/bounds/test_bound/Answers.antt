use Rattle.std.proofs.Common.{◌≡◌, true, refl, inr}
use Rattle.route_judge.proofs.bounds.test_bound.Goals as goal

pub returns-clause-stops : goal.returns-clause-stops
returns-clause-stops c = inr (λ high. let told : c.is_too_high.result ≡ true = c.is_too_high.ensures.high.1 high in cc (told, c.if-is_too_high.false), refl)
