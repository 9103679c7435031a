-- The least of finitely many numbers.
use Rattle.std.specs.Prelude.{ℕ, zero, suc, min}

-- the least of a limit and of f 0, .., f (n - 1)
unfoldable pub least : ℕ → (ℕ → ℕ) → ℕ → ℕ
least limit f zero = limit
least limit f (suc n) = min (least limit f n) (f n)
