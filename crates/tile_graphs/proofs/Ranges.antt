-- Folds over numbers.
use Rattle.std.proofs.Common.{ℕ, ◌≡◌, ◌+◌, ◌∙◌, suc, zero, ap, arith}
use Rattle.std.specs.List.{fold, range_with_len}

-- one number more
count_more : {B : Type 0} (f : B → ℕ → B) (b : B) (first count : ℕ)
    → fold f b (range_with_len first (suc count)) ≡ f (fold f b (range_with_len first count)) (first + count)
count_more f b first zero = ap (λ k. f b k) (omega arith)
count_more f b first (suc count) =
    count_more f (f b first) (first + 1) count ∙ ap (λ k. f (fold f (f b first) (range_with_len (first + 1) count)) k) (omega arith)

pub fold_range_more : {B : Type 0} (f : B → ℕ → B) (b : B) (count : ℕ)
    → fold f b (range_with_len 0 (count + 1)) ≡ f (fold f b (range_with_len 0 count)) count
fold_range_more f b count =
    ap (λ n. fold f b (range_with_len 0 n)) (let e : count + 1 ≡ suc count = omega arith in e) ∙ count_more f b 0 count
    ∙ ap (λ k. f (fold f b (range_with_len 0 count)) k) (let e : 0 + count ≡ count = omega arith in e)
