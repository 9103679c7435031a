-- When two numbers are a fraction in lowest terms.
use Rattle.std.specs.Prelude.{ℕ, ◌≡◌, ◌*◌, ◌≤◌, ◌<◌}
use Rattle.fractions.specs.Limits.{numerator_limit, max_denominator}

-- a numerator and a denominator within the limits, which no number above 1 divides both
pub record IsLowest (num den : ℕ) : Type 0 where
  pub small : num < numerator_limit
  pub positive : 1 ≤ den
  pub limit : den ≤ max_denominator
  pub no_divisor : (k a b : ℕ) → num ≡ k * a → den ≡ k * b → k ≡ 1
