use Rattle.std.specs.Prelude.{◌≡◌}
use Rattle.text_tests.proofs.seed_tests.drawn_at.Given as goal

abbrev pub invariant-loop : goal.invariant-loop
invariant-loop l = l.words.count ≡ l.counter
