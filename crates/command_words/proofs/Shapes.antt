-- The words of a command, from the front.
use Rattle.std.proofs.Common.{◌≡◌, ◌&&◌, ◌<◌, ◌==◌, ℕ, Bool, true, false, not, List, [], ◌∷◌, ◌-◌, ◌≤◌, map, length, take, drop, get_or, refl, arith, ap, sym, ◌∙◌}
use Rattle.std.proofs.Math.Seq.{take-length}
use Rattle.std.specs.List.{list_all, list_any}
use Rattle.std.specs.Str.{bytes_eq}
use Rattle.command_words.specs.CommandLine.{CommandForm, all_differ, are_options, are_pairs, has_option, in_pairs, is_value_word}

-- fewer than two words are no pair
pub no_pair : {X : Type 0} (f : X → List ℕ) (xs : List X) → length xs < 2 → in_pairs (map f xs) ≡ []
no_pair f [] h = refl
no_pair f (x ∷ []) h = refl
no_pair f (x ∷ y ∷ xs) h = absurd (omega arith)

-- fewer than two words are options where they are none
pub few_options : {X : Type 0} (form : CommandForm) (f : X → List ℕ) (xs : List X) → length xs < 2 → (length xs == 0) ≡ are_options form (map f xs)
few_options form f [] h = refl
few_options form f (x ∷ []) h = refl
few_options form f (x ∷ y ∷ xs) h = absurd (omega arith)

shuffle : (a b c d e : Bool) → (a && ((b && c) && (d && e))) ≡ (b && (d && (a && (c && e))))
shuffle true true c true e = refl
shuffle true true true false e = refl
shuffle true true false false e = refl
shuffle true false c d e = refl
shuffle false true c true e = refl
shuffle false true c false e = refl
shuffle false false c d e = refl

-- a pair and what is behind it
pub options_step : (form : CommandForm) (option value : List ℕ) (words : List (List ℕ))
    → are_options form (option ∷ value ∷ words) ≡ ((has_option form option && is_value_word value)
    && (not (list_any (bytes_eq option) (map (λ given. given.0) (in_pairs words))) && are_options form words))
options_step form option value words = shuffle (are_pairs words) (has_option form option && is_value_word value)
    (list_all (λ given. has_option form given.0 && is_value_word given.1) (in_pairs words))
    (not (list_any (bytes_eq option) (map (λ given. given.0) (in_pairs words)))) (all_differ (map (λ given. given.0) (in_pairs words)))

-- an option that is given once more
pub repeated : {X : Type 0} (form : CommandForm) (f : X → List ℕ) (xs : List X) (x : X) (name : List ℕ) → 2 ≤ length xs → x ≡ get_or xs 0 x → name ≡ f x
    → list_any (bytes_eq name) (map (λ given. given.0) (in_pairs (map f (take (length xs - 2) (drop 2 xs))))) ≡ true
    → false ≡ are_options form (map f xs)
repeated form f [] x name h at is given = absurd (omega arith)
repeated form f (y ∷ []) x name h at is given = absurd (omega arith)
repeated {X = X} form f (y ∷ z ∷ zs) x name h at is given =
    sym (options_step form (f y) (f z) (map f zs) ∙ ap (λ b. (has_option form (f y) && is_value_word (f z)) && (not b && are_options form (map f zs))) behind
    ∙ none (has_option form (f y) && is_value_word (f z)))
  where
    left : length (y ∷ z ∷ zs) - 2 ≡ length zs
    left = omega arith

    behind : list_any (bytes_eq (f y)) (map (λ p. p.0) (in_pairs (map f zs))) ≡ true
    behind = ap (λ n. list_any (bytes_eq n) (map (λ p. p.0) (in_pairs (map f zs)))) (sym (is ∙ ap f at))
        ∙ ap (λ (w : List X). list_any (bytes_eq name) (map (λ p. p.0) (in_pairs (map f w)))) (sym (ap (λ n. take n zs) left ∙ take-length zs)) ∙ given

    none : (b : Bool) → (b && false) ≡ false
    none true = refl
    none false = refl
