-- As many different numbers below n as there are: at most n.
use Rattle.std.proofs.Common.{◌≡◌, ◌≢◌, ℕ, zero, suc, ◌-◌, ◌<◌, ◌≤◌, cond, ltb, arith}
use Rattle.std.proofs.lemmas.Bool.Decides.{nat_tests}

-- the number without a gap at x
unfoldable pub closed : ℕ → ℕ → ℕ
closed x y = cond (ltb y x) y (y - 1)

closed_below : (n x y : ℕ) → x < suc n → y < suc n → y ≢ x → closed x y < n
unfolding closed
closed_below n x y x_in y_in other = grind (arith, nat_tests)

closed_differs : (x y z : ℕ) → y ≢ x → z ≢ x → closed x y ≡ closed x z → y ≡ z
unfolding closed
closed_differs x y z y_other z_other same = grind (arith, nat_tests)

-- m different numbers below n are at most n
pub at_most : (n m : ℕ) (f : ℕ → ℕ) → ((j : ℕ) → j < m → f j < n) → ((i j : ℕ) → i < m → j < m → f i ≡ f j → i ≡ j) → m ≤ n
at_most n zero f below differ = omega arith
at_most zero (suc m) f below differ = absurd (omega (arith, below 0 (omega arith)))
at_most (suc n) (suc m) f below differ =
    let other : (j : ℕ) → j < m → f j ≢ f m = λ j high same. omega (arith, differ j m (omega arith) (omega arith) same) in
    let rest = at_most n m (λ j. closed (f m) (f j))
    (λ j high. closed_below n (f m) (f j) (below m (omega arith)) (below j (omega arith)) (other j high))
    (λ i j low high same. differ i j (omega arith) (omega arith)
    (closed_differs (f m) (f i) (f j) (other i low) (other j high) same)) in
    omega (arith, rest)

-- m different numbers below n, all other than one that is below n too, are less than n
pub less_than : (n m : ℕ) (f : ℕ → ℕ) (v : ℕ) → v < n → ((j : ℕ) → j < m → f j < n)
    → ((i j : ℕ) → i < m → j < m → f i ≡ f j → i ≡ j) → ((j : ℕ) → j < m → f j ≢ v) → m < n
less_than zero m f v inside below differ other = absurd (omega arith)
less_than (suc n) m f v inside below differ other =
    let rest = at_most n m (λ j. closed v (f j))
    (λ j high. closed_below n v (f j) inside (below j high) (other j high))
    (λ i j low high same. differ i j low high (closed_differs v (f i) (f j) (other i low) (other j high) same)) in
    omega (arith, rest)
