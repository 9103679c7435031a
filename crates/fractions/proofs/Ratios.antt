-- Numbers divided by their greatest common divisor, and ratios compared by cross products.
use Rattle.std.proofs.Common.{◌≡◌, ℕ, ◌*◌, ◌/◌, ◌≤◌, ◌<◌, sym, ◌∙◌, ap, subst, arith}
use Rattle.std.specs.Int.{IsGcd, ◌∣◌}
use Rattle.std.proofs.Math.Nat.{div-mul_cancel, dvd-mul_right, mul-le-mul_right, le_of_mul-le-mul_right}
use Rattle.std.proofs.lemmas.Nat.Gcd.{le_from_IsGcd}
use Rattle.fractions.specs.LowestTerms.{IsLowest}
use Rattle.fractions.specs.Limits.{numerator_limit, max_denominator}

-- a product is positive only where both factors are
left_positive : (a b n : ℕ) → a * b ≡ n → 0 < n → 0 < a
left_positive a b n is positive = grind arith

right_positive : (a b n : ℕ) → a * b ≡ n → 0 < n → 0 < b
right_positive a b n is positive = grind arith

factor-le : (a b n : ℕ) → a * b ≡ n → 0 < b → a ≤ n
factor-le a b n is positive = grind arith

turned : (k a g n q : ℕ) → q * g ≡ n → q ≡ k * a → k * g * a ≡ n
turned k a g n q is split =
    let same : k * g * a ≡ k * a * g = omega arith in same ∙ ap (λ (t : ℕ). t * g) (sym split) ∙ is

at_most_one : (k g : ℕ) → 0 < g → k * g ≤ g → k ≤ 1
at_most_one k g positive below = le_of_mul-le-mul_right {k = g} (omega arith) positive

one_from_bounds : (k : ℕ) → k ≤ 1 → 0 < k → k ≡ 1
one_from_bounds k below above = omega arith

-- two numbers divided by their greatest common divisor have no divisor in common
pub IsLowest-from_gcd : (num den g : ℕ) → IsGcd num den g → num < numerator_limit → 1 ≤ den → den ≤ max_denominator → IsLowest (num / g) (den / g)
IsLowest-from_gcd num den g gcd num_limit positive den_limit =
    let up : num / g * g ≡ num = div-mul_cancel g gcd.0 in
    let down : den / g * g ≡ den = div-mul_cancel g gcd.1 in
    let g_positive : 0 < g = right_positive (den / g) g den down positive in
    let den_positive : 0 < den / g = left_positive (den / g) g den down positive in
    let num_smaller : num / g ≤ num = factor-le (num / g) g num up g_positive in
    let den_smaller : den / g ≤ den = factor-le (den / g) g den down g_positive in
    record {
      small = omega arith;
      positive = omega arith;
      limit = omega arith;
      no_divisor = λ k a b num_split den_split.
          let k_positive : 0 < k = left_positive k b (den / g) (sym den_split) den_positive in
          let both : k * g ≤ g = le_from_IsGcd num den g (k * g) gcd g_positive
          (subst (λ (n : ℕ). k * g ∣ n) (turned k a g num (num / g) up num_split) (dvd-mul_right (k * g) a))
          (subst (λ (n : ℕ). k * g ∣ n) (turned k b g den (den / g) down den_split) (dvd-mul_right (k * g) b)) in
          one_from_bounds k (at_most_one k g g_positive both) k_positive;
    }

crossed : (x y g num den : ℕ) → x * g ≡ num → y * g ≡ den → x * den ≡ num * y
crossed x y g num den up down =
    let same : x * (y * g) ≡ x * g * y = omega arith in ap (λ (t : ℕ). x * t) (sym down) ∙ same ∙ ap (λ (t : ℕ). t * y) up

-- the ratio stays
pub same_ratio : (num den g : ℕ) → IsGcd num den g → num / g * den ≡ num * (den / g)
same_ratio num den g gcd = crossed (num / g) (den / g) g num den (div-mul_cancel g gcd.0) (div-mul_cancel g gcd.1)

-- a/x is at most c/z where both compare so with b/y
pub ratio-trans : (a x b y c z : ℕ) → a * y ≤ b * x → b * z ≤ c * y → 0 < y → a * z ≤ c * x
ratio-trans a x b y c z first second positive =
    let low : a * y * z ≤ b * x * z = mul-le-mul_right z first in
    let high : b * z * x ≤ c * y * x = mul-le-mul_right x second in
    le_of_mul-le-mul_right {k = y} (omega arith) positive
