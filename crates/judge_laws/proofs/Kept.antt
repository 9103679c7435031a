-- Numbers that pass a test, one number more.
use Rattle.std.proofs.Common.{◌≡◌, ◌+◌, ℕ, Bool, true, false, List, [], ◌∷◌, ◌++◌, map, refl, sym, ◌∙◌, ap, zero-add}
use Rattle.std.specs.Prelude.{filter}
use Rattle.std.specs.List.{range_with_len}
use Rattle.std.proofs.lemmas.List.{append-nil, map-append}
use Rattle.std.proofs.lemmas.List.Elements.{filter-append}
use Rattle.std.proofs.lemmas.List.FromFn.{map-range_with_len_more}

-- what a function gives for those of so many numbers that pass
abbrev pub kept : {A : Type 0} → (ℕ → Bool) → (ℕ → A) → ℕ → List A
kept p f count = map f (filter p (range_with_len 0 count))

last_kept : {A : Type 0} (p : ℕ → Bool) (f : ℕ → A) (e : ℕ) → p e ≡ true → map f (filter p (e ∷ [])) ≡ f e ∷ []
last_kept p f e is = rw is refl

last_left : {A : Type 0} (p : ℕ → Bool) (f : ℕ → A) (e : ℕ) → p e ≡ false → map f (filter p (e ∷ [])) ≡ []
last_left p f e is = rw is refl

same_list : (xs : List ℕ) → map (λ (x : ℕ). x) xs ≡ xs
same_list [] = refl
same_list (x ∷ xs) = ap (λ (rest : List ℕ). x ∷ rest) (same_list xs)

range_more : (e : ℕ) → range_with_len 0 (e + 1) ≡ range_with_len 0 e ++ e ∷ []
range_more e =
    sym (same_list (range_with_len 0 (e + 1)))
    ∙ map-range_with_len_more (λ (x : ℕ). x) 0 e e (zero-add e)
    ∙ ap (λ (xs : List ℕ). xs ++ e ∷ []) (same_list (range_with_len 0 e))

more : {A : Type 0} (p : ℕ → Bool) (f : ℕ → A) (e : ℕ) → kept p f (e + 1) ≡ kept p f e ++ map f (filter p (e ∷ []))
more p f e =
    ap (λ (es : List ℕ). map f (filter p es)) (range_more e)
    ∙ ap (map f) (filter-append p (range_with_len 0 e) (e ∷ []))
    ∙ map-append f (filter p (range_with_len 0 e)) (filter p (e ∷ []))

-- the next number passes, or it doesn't
pub kept-more : {A : Type 0} (p : ℕ → Bool) (f : ℕ → A) (e : ℕ) → p e ≡ true → kept p f (e + 1) ≡ kept p f e ++ f e ∷ []
kept-more p f e is = more p f e ∙ ap (λ xs. kept p f e ++ xs) (last_kept p f e is)

pub kept-same : {A : Type 0} (p : ℕ → Bool) (f : ℕ → A) (e : ℕ) → p e ≡ false → kept p f (e + 1) ≡ kept p f e
kept-same p f e is = more p f e ∙ ap (λ xs. kept p f e ++ xs) (last_left p f e is) ∙ append-nil (kept p f e)
