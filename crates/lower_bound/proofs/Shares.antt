-- Sums of numbers of which no three are positive, and any two add up to a limit.
use Rattle.std.proofs.Common.{◌≡◌, ◌≢◌, ℕ, zero, suc, ◌+◌, ◌-◌, ◌<◌, ◌≤◌, List, [], ◌∷◌, length, get_or, refl, ◌∙◌, ⊎_elim, arith}
use Rattle.std.proofs.lemmas.Bool.{cases_eq}
use Rattle.std.specs.List.{sum}
use Rattle.std.proofs.lemmas.List.Sums.{sum_by-cons}

-- f 0, .., f (n - 1) together
unfoldable pub total : (ℕ → ℕ) → ℕ → ℕ
total f zero = 0
total f (suc n) = total f n + f n

pub total-add : (f g h : ℕ → ℕ) (n : ℕ) → ((i : ℕ) → i < n → h i ≡ f i + g i) → total h n ≡ total f n + total g n
unfolding total
total-add f g h zero sums = refl
total-add f g h (suc n) sums = omega (arith, sums n (omega arith), total-add f g h n (λ i low. sums i (omega (arith, low))))

pub total-at_most : (f g : ℕ → ℕ) (n : ℕ) → ((i : ℕ) → i < n → f i ≤ g i) → total f n ≤ total g n
unfolding total
total-at_most f g zero below = omega arith
total-at_most f g (suc n) below = omega (arith, below n (omega arith), total-at_most f g n (λ i low. below i (omega (arith, low))))

pub total-none : (f : ℕ → ℕ) (n : ℕ) → ((i : ℕ) → i < n → f i ≡ 0) → total f n ≡ 0
unfolding total
total-none f zero none = refl
total-none f (suc n) none = omega (arith, none n (omega arith), total-none f n (λ i low. none i (omega (arith, low))))

-- one alone is positive
one_positive : (f : ℕ → ℕ) (limit n : ℕ) → ((i j : ℕ) → i < n → j < n → i ≢ j → 0 < f i → f j ≡ 0) → ((i : ℕ) → i < n → f i ≤ limit) → total f n ≤ limit
unfolding total
one_positive f limit zero alone below = omega arith
one_positive f limit (suc n) alone below = ⊎_elim
    (λ none. omega (arith, none, one_positive f limit n (λ i j low high. alone i j (omega (arith, low)) (omega (arith, high))) (λ i low. below i (omega (arith, low)))))
    (λ some. omega (arith, below n (omega arith), total-none f n (λ i low. alone n i (omega arith) (omega (arith, low)) (λ same. absurd (omega (arith, same, low))) (omega (arith, some)))))
    (cases_eq (f n) 0)

-- at most two are positive, and any two are within the limit
pub two_positive : (f : ℕ → ℕ) (limit n : ℕ) → ((i : ℕ) → i < n → f i ≤ limit) → ((i j : ℕ) → i < n → j < n → i ≢ j → 0 < f i → 0 < f j → f i + f j ≤ limit) →
    ((i j l : ℕ) → i < n → j < n → l < n → i ≢ j → i ≢ l → j ≢ l → 0 < f i → 0 < f j → f l ≡ 0) → total f n ≤ limit
unfolding total
two_positive f limit zero one two three = omega arith
two_positive f limit (suc n) one two three = ⊎_elim
    (λ none. omega (
      arith,
      none,
      two_positive f limit n (λ i low. one i (omega (arith, low))) (λ i j low high. two i j (omega (arith, low)) (omega (arith, high)))
          (λ i j l low high last. three i j l (omega (arith, low)) (omega (arith, high)) (omega (arith, last))),
    ))
    (λ some.
    let own = one n (omega arith) in
    let others : total f n ≤ limit - f n = one_positive f (limit - f n) n
    (λ i j low high other at. three n i j (omega arith) (omega (arith, low)) (omega (arith, high)) (λ same. absurd (omega (arith, same, low))) (λ same. absurd (omega (arith, same, high))) other (omega (arith, some)) at)
    (λ i low. ⊎_elim
    (λ (zero_there : f i ≡ 0). omega (arith, zero_there))
    (λ there. let both = two n i (omega arith) (omega (arith, low)) (λ same. absurd (omega (arith, same, low))) (omega (arith, some)) (omega (arith, there)) in omega (arith, both))
    (cases_eq (f i) 0)) in
    omega (arith, own, others))
    (cases_eq (f n) 0)

total-front : (f : ℕ → ℕ) (n : ℕ) → total f (suc n) ≡ f 0 + total (λ i. f (suc i)) n
unfolding total
total-front f zero = omega arith
total-front f (suc n) = omega (arith, total-front f n)

-- the entries of a list together are its sum
pub total-sum : (xs : List ℕ) → total (λ i. get_or xs i 0) (length xs) ≡ sum xs
unfolding total
total-sum [] = refl
total-sum (x ∷ xs) = total-front (λ i. get_or (x ∷ xs) i 0) (length xs) ∙ omega (arith, total-sum xs, sum_by-cons (λ (r : ℕ). r) x xs)

-- a number cut off by another, and how much two such differ
abbrev pub depth : ℕ → ℕ → ℕ
depth r d = r - d

abbrev pub share : ℕ → ℕ → ℕ
share x y = (x - y) + (y - x)

pub share_one : (r a b w : ℕ) → a ≤ b + w → b ≤ a + w → share (depth r a) (depth r b) ≤ w
share_one r a b w one other = omega arith

-- two moats with a piece: the depths in them at its two ends
pub share_two : (r q a b c d w : ℕ) → a ≤ b + w → b ≤ a + w → c ≤ d + w → d ≤ c + w → r + q ≤ a + c → r + q ≤ b + d → r + q ≤ a + w + d → r + q ≤ b + w + c →
    0 < share (depth r a) (depth r b) → 0 < share (depth q c) (depth q d) → share (depth r a) (depth r b) + share (depth q c) (depth q d) ≤ w
share_two r q a b c d w one two three four at_a at_b over back first second = omega arith

-- a third has no end left
pub share_three : (r q o a b c d e f : ℕ) → r + q ≤ a + c → r + q ≤ b + d → r + o ≤ a + e → r + o ≤ b + f → q + o ≤ c + e → q + o ≤ d + f →
    0 < share (depth r a) (depth r b) → 0 < share (depth q c) (depth q d) → share (depth o e) (depth o f) ≡ 0
share_three r q o a b c d e f one two three four five six first second = omega arith
