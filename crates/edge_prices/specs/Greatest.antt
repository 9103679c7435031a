-- The greatest of finitely many numbers.
use Rattle.std.specs.Prelude.{ℕ, zero, suc, ◌+◌, ◌==◌, cond, max}

-- the greatest of f 0, .., f (n - 1), and 0 where n is 0
unfoldable pub greatest : (ℕ → ℕ) → ℕ → ℕ
greatest f zero = 0
greatest f (suc n) = max (greatest f n) (f n)

-- how many of f 0, .., f (n - 1) are x
unfoldable pub how_many : (ℕ → ℕ) → ℕ → ℕ → ℕ
how_many f x zero = 0
how_many f x (suc n) = how_many f x n + cond (f n == x) 1 0
