-- What holds of each item that a loop has passed.
use Rattle.std.proofs.Common.{ℕ, List, ◌≡◌, ◌<◌, ◌≤◌, ◌+◌, ◌∙◌, min, length, take, ap, subst, sym, get_or, arith}
use Rattle.std.specs.List.{All, fold}
use Rattle.std.proofs.lemmas.List.Elements.{All-more, All-weaker}
use Rattle.std.proofs.lemmas.List.{take_all}
use Rattle.std.proofs.lemmas.List.Sums.{fold_more}

pub all_more : {X : Type 0} (P Q : X → Type 0) (xs : List X) (i : ℕ) (d : X) → i < length xs
    → ((x : X) → P x → Q x) → Q (get_or xs i d) → All P (take i xs) → All Q (take (i + 1) xs)
all_more P Q xs i d within weaker here before = All-more Q xs i d within (All-weaker P Q weaker (take i xs) before) here

-- at the end that is all of them
pub all_end : {X : Type 0} (P : X → Type 0) (xs : List X) (i : ℕ) → length xs ≤ i → All P (take i xs) → All P xs
all_end {X} P xs i past so_far = let Q : List X → Type 0 = λ ys. All P ys in subst Q (take_all i xs past) so_far

-- the least number so far, where one more is asked
pub least_where : {X : Type 0} (P : X → Type 0) (f : X → ℕ) (xs : List X) (i : ℕ) (d : X) (old new x : ℕ) → i < length xs
    → (P (get_or xs i d) → x ≡ f (get_or xs i d)) → new ≡ min old x
    → All (λ y. P y → old ≤ f y) (take i xs) → All (λ y. P y → new ≤ f y) (take (i + 1) xs)
least_where {X} P f xs i d old new x within read least so_far =
    let Before : X → Type 0 = λ y. P y → old ≤ f y in
    let After : X → Type 0 = λ y. P y → new ≤ f y in
    all_more Before After xs i d within (λ y low is. omega (arith, low is, least)) (λ is. omega (arith, read is, least)) so_far

pub least_more : {X : Type 0} (f : X → ℕ) (xs : List X) (i : ℕ) (d : X) (old new x : ℕ) → i < length xs
    → x ≡ f (get_or xs i d) → new ≡ min old x
    → All (λ y. old ≤ f y) (take i xs) → All (λ y. new ≤ f y) (take (i + 1) xs)
least_more {X} f xs i d old new x within read least so_far =
    let Before : X → Type 0 = λ y. old ≤ f y in
    let After : X → Type 0 = λ y. new ≤ f y in
    all_more Before After xs i d within (λ y low. omega (arith, low, least)) (omega (arith, read, least)) so_far

-- the least number of all that were asked so far, where one more is asked
pub least_fold : {X : Type 0} (f : X → ℕ) (xs : List X) (i : ℕ) (d : X) (first old new x : ℕ) → i < length xs
    → x ≡ f (get_or xs i d) → new ≡ min old x
    → old ≡ fold (λ least y. min least (f y)) first (take i xs) → new ≡ fold (λ least y. min least (f y)) first (take (i + 1) xs)
least_fold f xs i d first old new x within read least so_far =
    least ∙ (ap (λ n. min n x) so_far ∙ (ap (λ n. min (fold (λ least y. min least (f y)) first (take i xs)) n) read
    ∙ sym (fold_more (λ least y. min least (f y)) first xs i d within)))
