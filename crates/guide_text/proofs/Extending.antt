-- The longest stretch of numbers with a property around one of them.
use Rattle.std.proofs.Common.{◌≡◌, ℕ, zero, suc, ◌+◌, ◌<◌, ◌≤◌, subst, arith, ⊎_elim, ◌⊎◌}
use Rattle.std.proofs.lemmas.Bool.{cases_lt}

-- each number has the property or not
abbrev pub Decided : (ℕ → Type 0) → Type 0
Decided P = (k : ℕ) → P k ⊎ ¬ P k

-- the first number of the stretch that leads up to this one
pub record ReachesDown (P : ℕ → Type 0) (k : ℕ) : Type 0 where
  pub first : ℕ
  pub order : first ≤ k
  pub each : (j : ℕ) → first ≤ j → j ≤ k → P j
  pub before : (j : ℕ) → j + 1 ≡ first → ¬ P j

pub reach_down : (P : ℕ → Type 0) → Decided P → (k : ℕ) → P k → ReachesDown P k
reach_down P decided zero here = record {
  first = zero;
  order = omega arith;
  each = λ j low high. let same : zero ≡ j = omega arith in subst P same here;
  before = λ j next. absurd (omega (arith, next));
}
reach_down P decided (suc k) here = ⊎_elim
    (λ (down : P k). let more = reach_down P decided k down in record {
      first = more.first;
      order = omega (arith, more.order);
      each = λ j low high. ⊎_elim
          (λ (less : j < suc k). more.each j low (omega arith))
          (λ (le : suc k ≤ j). let same : suc k ≡ j = omega arith in subst P same here)
          (cases_lt j (suc k));
      before = more.before;
    })
    (λ (none : ¬ P k). record {
      first = suc k;
      order = omega arith;
      each = λ j low high. let same : suc k ≡ j = omega arith in subst P same here;
      before = λ j next holds. let same : j ≡ k = omega (arith, next) in none (subst P same holds);
    })
    (decided k)

-- the last number of the stretch that leads up from this one
pub record ReachesUp (P : ℕ → Type 0) (k : ℕ) : Type 0 where
  pub last : ℕ
  pub order : k ≤ last
  pub each : (j : ℕ) → k ≤ j → j ≤ last → P j
  pub behind : ¬ P (last + 1)

pub reach_up : (P : ℕ → Type 0) → Decided P → (n k : ℕ) → ((j : ℕ) → k + n ≤ j → ¬ P j) → P k → ReachesUp P k
reach_up P decided zero k none here = absurd (none k (omega arith) here)
reach_up P decided (suc n) k none here = ⊎_elim
    (λ (up : P (k + 1)). let more = reach_up P decided n (k + 1) (λ j past. none j (omega arith)) up in record {
      last = more.last;
      order = omega (arith, more.order);
      each = λ j low high. ⊎_elim
          (λ (less : k < j). more.each j (omega arith) high)
          (λ (le : j ≤ k). let same : k ≡ j = omega arith in subst P same here)
          (cases_lt k j);
      behind = more.behind;
    })
    (λ (stop : ¬ P (k + 1)). record {
      last = k;
      order = omega arith;
      each = λ j low high. let same : k ≡ j = omega arith in subst P same here;
      behind = stop;
    })
    (decided (k + 1))
