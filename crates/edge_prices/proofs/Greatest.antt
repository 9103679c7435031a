-- The greatest of finitely many numbers.
use Rattle.std.proofs.Common.{ℕ, zero, suc, ◌+◌, ◌==◌, ◌≡◌, ◌≢◌, ◌≤◌, ◌<◌, cond, max, refl, inl, inr, ap, sym, ◌∙◌, arith, add-one}
use Rattle.std.proofs.lemmas.Bool.{cases_lt, cases_eq, cond-true, cond-false, eq-eqb, ne_eqb, lt-ltb, le-ltb}
use Rattle.std.specs.Prelude.{ltb}
use Rattle.edge_prices.specs.Greatest.{greatest, how_many}

-- one number more
pub greatest-more : (f : ℕ → ℕ) (n : ℕ) → greatest f (n + 1) ≡ max (greatest f n) (f n)
unfolding greatest
greatest-more f n = ap (greatest f) (add-one n)

-- each of them is at most the greatest
pub le-greatest : (f : ℕ → ℕ) (n k : ℕ) → k < n → f k ≤ greatest f n
unfolding greatest
le-greatest f zero k below = absurd (omega arith)
le-greatest f (suc n) k below = elim (cases_lt k n) [
  | inl earlier ↦ omega (arith, le-greatest f n k earlier)
  | inr last ↦ let same : k ≡ n = omega arith in omega (arith, ap f same)
]

-- a bound of all is one of the greatest
pub greatest-le : (f : ℕ → ℕ) (n most : ℕ) → ((k : ℕ) → k < n → f k ≤ most) → greatest f n ≤ most
unfolding greatest
greatest-le f zero most each = omega arith
greatest-le f (suc n) most each = omega (arith, greatest-le f n most (λ k below. each k (omega arith)), each n (omega arith))

-- what a number counts for: 1 where it is x
counts : (a x : ℕ) → a ≡ x → ◌≡◌ {A = ℕ} (cond (a == x) 1 0) 1
counts a x same = cond-true (a == x) 1 0 (eq-eqb a x same)

counts_not : (a x : ℕ) → a ≢ x → ◌≡◌ {A = ℕ} (cond (a == x) 1 0) 0
counts_not a x other = cond-false (a == x) 1 0 (ne_eqb a x other)

pub how_many-more : (f : ℕ → ℕ) (x n : ℕ) → how_many f x (n + 1) ≡ how_many f x n + cond (f n == x) 1 0
unfolding how_many
how_many-more f x n = ap (how_many f x) (add-one n)

pub how_many-limit : (f : ℕ → ℕ) (x n : ℕ) → how_many f x n ≤ n
unfolding how_many
how_many-limit f x zero = omega arith
how_many-limit f x (suc n) = let before = how_many-limit f x n in elim (cases_eq (f n) x) [
  | inl same ↦ omega (arith, before, counts (f n) x same)
  | inr other ↦ omega (arith, before, counts_not (f n) x other)
]

-- one of them counts with the others
pub how_many-here : (f : ℕ → ℕ) (x n r : ℕ) → r < n → cond (f r == x) 1 0 ≤ how_many f x n
unfolding how_many
how_many-here f x zero r below = absurd (omega arith)
how_many-here f x (suc n) r below = elim (cases_lt r n) [
  | inl earlier ↦ omega (arith, how_many-here f x n r earlier)
  | inr last ↦ let same : r ≡ n = omega arith in omega (arith, ap {B = ℕ} (λ k. cond (f k == x) 1 0) same)
]

-- where all are below x, none is x
how_many-none : (f : ℕ → ℕ) (x n : ℕ) → ((k : ℕ) → k < n → f k < x) → how_many f x n ≡ 0
unfolding how_many
how_many-none f x zero each = refl
how_many-none f x (suc n) each =
    let last = each n (omega arith) in
    omega (arith, how_many-none f x n (λ k below. each k (omega arith)), counts_not (f n) x (λ same. omega arith))

-- where some are x, there is one
how_many-found : (f : ℕ → ℕ) (x n : ℕ) → 0 < how_many f x n → (k : ℕ) × (k < n) × (f k ≡ x)
unfolding how_many
how_many-found f x zero some = absurd (omega arith)
how_many-found f x (suc n) some = elim (cases_eq (f n) x) [
  | inl same ↦ (n, omega arith, same)
  | inr other ↦ let earlier = how_many-found f x n (omega (arith, counts_not (f n) x other)) in (earlier.0, omega (arith, earlier.1), earlier.2)
]

how_many-same : (f g : ℕ → ℕ) (x n : ℕ) → ((k : ℕ) → k < n → g k ≡ f k) → how_many g x n ≡ how_many f x n
unfolding how_many
how_many-same f g x zero each = refl
how_many-same f g x (suc n) each =
    omega (arith, how_many-same f g x n (λ k below. each k (omega arith)), ap {B = ℕ} (λ y. cond (y == x) 1 0) (each n (omega arith)))

-- where one number changes, it counts as it is now, and no longer as it was
pub how_many-change : (f g : ℕ → ℕ) (x n r : ℕ) → ((k : ℕ) → k ≢ r → g k ≡ f k) → r < n → how_many g x n + cond (f r == x) 1 0 ≡ how_many f x n + cond (g r == x) 1 0
unfolding how_many
how_many-change f g x zero r others below = absurd (omega arith)
how_many-change f g x (suc n) r others below = elim (cases_lt r n) [
  | inl earlier ↦
      omega (arith, how_many-change f g x n r others earlier, ap {B = ℕ} (λ y. cond (y == x) 1 0) (others n (λ same. omega arith)))
  | inr last ↦
      let same : r ≡ n = omega arith in
      omega (arith, how_many-same f g x n (λ k before. others k (λ is. omega arith)), ap {B = ℕ} (λ k. cond (f k == x) 1 0) same, ap {B = ℕ} (λ k. cond (g k == x) 1 0) same)
]

-- a number that none exceeds and that some are is the greatest
pub greatest-met : (f : ℕ → ℕ) (x n : ℕ) → ((k : ℕ) → k < n → f k ≤ x) → 0 < how_many f x n → greatest f n ≡ x
greatest-met f x n each some =
    let found = how_many-found f x n some in
    omega (arith, greatest-le f n x each, le-greatest f n found.0 found.1, found.2)

-- how many are the greatest with one number more
pub how_many-greatest : (f : ℕ → ℕ) (n : ℕ) → how_many f (max (greatest f n) (f n)) (n + 1) ≡ cond (ltb (greatest f n) (f n)) 1 (how_many f (greatest f n) n + cond (f n == greatest f n) 1 0)
how_many-greatest f n = elim (cases_lt (greatest f n) (f n)) [
  | inl above ↦
      let is : max (greatest f n) (f n) ≡ f n = omega arith in
      ap (λ x. how_many f x (n + 1)) is ∙ how_many-more f (f n) n
      ∙ omega (
        arith,
        how_many-none f (f n) n (λ k below. omega (arith, le-greatest f n k below)),
        counts (f n) (f n) refl,
        cond-true (ltb (greatest f n) (f n)) 1 (how_many f (greatest f n) n + cond (f n == greatest f n) 1 0) (lt-ltb (greatest f n) (f n) above),
      )
  | inr low ↦
      let is : max (greatest f n) (f n) ≡ greatest f n = omega arith in
      ap (λ x. how_many f x (n + 1)) is ∙ how_many-more f (greatest f n) n
      ∙ sym (cond-false (ltb (greatest f n) (f n)) 1 (how_many f (greatest f n) n + cond (f n == greatest f n) 1 0) (le-ltb (greatest f n) (f n) low))
]
