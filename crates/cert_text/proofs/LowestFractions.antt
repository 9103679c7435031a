-- A fraction in lowest terms is the only one of its value, and no other numerator and denominator of that value are less.
use Rattle.std.proofs.Common.{◌≡◌, ℕ, zero, suc, ◌+◌, ◌-◌, ◌*◌, ◌≤◌, ◌<◌, sym, ap, ◌∙◌, ⊎_elim, subst, arith}
use Rattle.std.proofs.lemmas.Bool.{cases_order}
use Rattle.std.proofs.Math.Bridge.{le_prop}
use Rattle.std.proofs.Math.Nat.{eq_of_mul-eq-mul_right, le_of_mul-le-mul_right, mul-le-mul_right, dvd-mul_left, ℕ_set}
use Rattle.std.proofs.lemmas.Nat.Gcd.{le_of_dvd}
use Rattle.std.specs.Int.{◌∣◌}
use Rattle.fractions.specs.Fractions.{IsRatio}
use Rattle.fractions.specs.LowestTerms.{IsLowest}
use Rattle.fractions.specs.declared.fraction.Fraction.{Fraction}

-- a/b and c/d are multiples of one fraction
record AreMultiples (a b c d : ℕ) : Type 0 where
  num : ℕ
  den : ℕ
  first : ℕ
  second : ℕ
  a_is : a ≡ first * num
  b_is : b ≡ first * den
  c_is : c ≡ second * num
  d_is : d ≡ second * den

turned_round : {a b c d : ℕ} → AreMultiples a b c d → AreMultiples c d a b
turned_round m = record { num = m.num; den = m.den; first = m.second; second = m.first; a_is = m.c_is; b_is = m.d_is; c_is = m.a_is; d_is = m.b_is }

-- taken off
rest_is_equal : (a b g e : ℕ) → a * (b + e) ≡ (a + g) * b → a * e ≡ g * b
rest_is_equal a b g e same = omega (arith, same)

added : (k l n : ℕ) → k * n + l * n ≡ (k + l) * n
added k l n = omega arith

not_more : (a b c d : ℕ) → a * d ≡ c * b → b ≤ d → 0 < d → a ≤ c
not_more a b c d same below positive =
    let more : b * c ≤ d * c = mul-le-mul_right c below in
    le_of_mul-le-mul_right {k = d} (omega (arith, same, more)) positive

rest_of_longer : (a b c d : ℕ) → a * d ≡ c * b → b < d → a * (d - b) ≡ (c - a) * b
rest_of_longer a b c d same less =
    let below : a ≤ c = not_more a b c d same (omega (arith, less)) (omega (arith, less)) in
    let d_is : b + (d - b) ≡ d = omega (arith, less) in
    let c_is : c ≡ a + (c - a) = omega (arith, below) in
    rest_is_equal a b (c - a) (d - b) (ap (λ x. a * x) d_is ∙ same ∙ ap (λ x. x * b) c_is)

longer : (a b c d : ℕ) → a * d ≡ c * b → b < d → AreMultiples a b (c - a) (d - b) → AreMultiples a b c d
longer a b c d same less m =
    let below : a ≤ c = not_more a b c d same (omega (arith, less)) (omega (arith, less)) in
    record {
      num = m.num;
      den = m.den;
      first = m.first;
      second = m.first + m.second;
      a_is = m.a_is;
      b_is = m.b_is;
      c_is = omega (arith, below, m.a_is, m.c_is, added m.first m.second m.num);
      d_is = omega (arith, less, m.b_is, m.d_is, added m.first m.second m.den);
    }

-- equal fractions are multiples of one
multiples : (n a b c d : ℕ) → b + d ≤ n → 0 < b → 0 < d → a * d ≡ c * b → AreMultiples a b c d
multiples zero a b c d few first second same = absurd (omega (arith, few, first))
multiples (suc n) a b c d few first second same = ⊎_elim
    (λ (one : b ≡ d).
    let nums : a ≡ c = eq_of_mul-eq-mul_right d second a c (same ∙ ap (λ x. c * x) one) in
    record { num = a; den = b; first = 1; second = 1; a_is = omega arith; b_is = omega arith; c_is = omega (arith, nums); d_is = omega (arith, one) })
    (⊎_elim
    (λ (less : b < d). longer a b c d same less
    (multiples n a b (c - a) (d - b) (omega (arith, few, less, first)) first (omega (arith, less)) (rest_of_longer a b c d same less)))
    (λ (more : d < b). turned_round (longer c d a b (sym same) more
    (multiples n c d (a - c) (b - d) (omega (arith, few, more, second)) second (omega (arith, more)) (rest_of_longer c d a b (sym same) more)))))
    (cases_order b d)

-- a fraction in lowest terms has the least denominator of its value
pub least_denominator : (num den : ℕ) (f : Fraction) → 1 ≤ den → IsRatio num den f → f.den ≤ den
least_denominator num den f positive ratio =
    let m = multiples (f.den + den) f.num f.den num den (omega arith) f.lowest.positive positive ratio in
    let one : m.first ≡ 1 = f.lowest.no_divisor m.first m.num m.den m.a_is m.b_is in
    let same : f.den ≡ m.den = m.b_is ∙ ap (λ x. x * m.den) one ∙ omega arith in
    let divides : f.den ∣ den = subst (λ x. f.den ∣ x) (ap (λ x. m.second * x) same ∙ sym m.d_is) (dvd-mul_left f.den m.second) in
    le_of_dvd positive divides

-- two fractions in lowest terms of one value have the same numbers
same_numbers : (num den : ℕ) (f g : Fraction) → 1 ≤ den → IsRatio num den f → IsRatio num den g → (f.num ≡ g.num) × (f.den ≡ g.den)
same_numbers num den f g positive one other =
    let cross : f.num * g.den ≡ g.num * f.den = eq_of_mul-eq-mul_right den positive _ _ (crossed f.num f.den g.num g.den num den one other) in
    let m = multiples (f.den + g.den) f.num f.den g.num g.den (omega arith) f.lowest.positive g.lowest.positive cross in
    let first : m.first ≡ 1 = f.lowest.no_divisor m.first m.num m.den m.a_is m.b_is in
    let second : m.second ≡ 1 = g.lowest.no_divisor m.second m.num m.den m.c_is m.d_is in
    let equal : m.first ≡ m.second = first ∙ sym second in
    (m.a_is ∙ ap (λ x. x * m.num) equal ∙ sym m.c_is, m.b_is ∙ ap (λ x. x * m.den) equal ∙ sym m.d_is)
  where
    crossed : (a b c d num den : ℕ) → a * den ≡ num * b → c * den ≡ num * d → a * d * den ≡ c * b * den
    crossed a b c d num den one other =
        let left : a * den * d ≡ num * b * d = ap (λ x. x * d) one in
        let right : c * den * b ≡ num * d * b = ap (λ x. x * b) other in
        omega (arith, left, right)

abbrev fraction_with : (num den : ℕ) → IsLowest num den → Fraction
fraction_with num den lowest = record { num = num; den = den; lowest = lowest }

same_lowest : (num den : ℕ) → IsProp (IsLowest num den)
same_lowest num den = hlevel (le_prop, ℕ_set)

-- so they are the same
pub only_fraction : (num den : ℕ) (f g : Fraction) → 1 ≤ den → IsRatio num den f → IsRatio num den g → f ≡ g
only_fraction num den f g positive one other =
    let numbers = same_numbers num den f g positive one other in
    subst (λ (n : ℕ). (l : IsLowest n g.den) → f ≡ fraction_with n g.den l) numbers.0
    (subst (λ (n : ℕ). (l : IsLowest f.num n) → f ≡ fraction_with f.num n l) numbers.1
    (λ l. ap (fraction_with f.num f.den) (same_lowest f.num f.den f.lowest l)))
    g.lowest
