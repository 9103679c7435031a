-- The least of finitely many numbers.
use Rattle.std.proofs.Common.{ℕ, zero, suc, ◌+◌, ◌≡◌, ◌≤◌, ◌<◌, min, refl, inl, inr, ap, arith, add-one}
use Rattle.std.proofs.lemmas.Bool.{cases_lt}
use Rattle.edge_prices.specs.Least.{least}

-- one number more
pub least-more : (limit : ℕ) (f : ℕ → ℕ) (n : ℕ) → least limit f (n + 1) ≡ min (least limit f n) (f n)
unfolding least
least-more limit f n = ap (least limit f) (add-one n)

pub least_none : (limit : ℕ) (f : ℕ → ℕ) → least limit f 0 ≡ limit
unfolding least
least_none limit f = refl

-- it is at most the limit
pub least-limit : (limit : ℕ) (f : ℕ → ℕ) (n : ℕ) → least limit f n ≤ limit
unfolding least
least-limit limit f zero = omega arith
least-limit limit f (suc n) = omega (arith, least-limit limit f n)

-- and at most each of the numbers
pub least-le : (limit : ℕ) (f : ℕ → ℕ) (n k : ℕ) → k < n → least limit f n ≤ f k
unfolding least
least-le limit f zero k below = absurd (omega arith)
least-le limit f (suc n) k below = elim (cases_lt k n) [
  | inl earlier ↦ omega (arith, least-le limit f n k earlier)
  | inr last ↦ let same : k ≡ n = omega arith in omega (arith, ap f same)
]

-- a bound of the limit and of each number is one of the least
pub least-ge : (limit : ℕ) (f : ℕ → ℕ) (n low : ℕ) → low ≤ limit → ((k : ℕ) → k < n → low ≤ f k) → low ≤ least limit f n
unfolding least
least-ge limit f zero low within each = within
least-ge limit f (suc n) low within each = omega (arith, least-ge limit f n low within (λ k below. each k (omega arith)), each n (omega arith))

-- numbers that are the same have the same least one
pub least-cong : (limit : ℕ) (f h : ℕ → ℕ) (n : ℕ) → ((k : ℕ) → k < n → f k ≡ h k) → least limit f n ≡ least limit h n
unfolding least
least-cong limit f h zero same = refl
least-cong limit f h (suc n) same = let earlier = least-cong limit f h n (λ k below. same k (omega arith)) in let last = same n (omega arith) in cc

-- one step of a loop that keeps the least so far
pub least_step : (limit : ℕ) (f : ℕ → ℕ) (n low x next : ℕ) → low ≡ least limit f n → x ≡ f n → next ≡ min low x → next ≡ least limit f (n + 1)
least_step limit f n low x next so_far here step = let more = least-more limit f n in cc
