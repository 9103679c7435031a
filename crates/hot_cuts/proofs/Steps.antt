-- Folds over what is left of a list.
use Rattle.std.proofs.Common.{ℕ, ◌≡◌, ◌<◌, ◌≤◌, ◌+◌, ◌∙◌, List, suc, ap, sym, drop, fold, get_or, length, arith}
use Rattle.std.proofs.Math.ListN.{drop_of_length-le}
use Rattle.std.proofs.Math.Seq.{drop-cons}

-- one element less is left
pub fold_step : {A B : Type 0} (f : B → A → B) (now after start : B) (xs : List A) (i : ℕ) (d : A) → i < length xs
    → fold f now (drop i xs) ≡ fold f start xs → after ≡ f now (get_or xs i d) → fold f after (drop (i + 1) xs) ≡ fold f start xs
fold_step f now after start xs i d within before is =
    let next : i + 1 ≡ suc i = omega arith in
    ap (λ n. fold f after (drop n xs)) next ∙ ap (λ b. fold f b (drop (suc i) xs)) is ∙ sym (ap (fold f now) (drop-cons xs i d within)) ∙ before

-- nothing is left
pub fold_end : {A B : Type 0} (f : B → A → B) (now start : B) (xs ys : List A) (i : ℕ) → length xs ≤ i
    → fold f now (drop i xs) ≡ fold f start xs → xs ≡ ys → now ≡ fold f start ys
fold_end f now start xs ys i past done same = ap (fold f now) (sym (drop_of_length-le xs past)) ∙ done ∙ ap (fold f start) same
