-- The options of `congestion_map`, from the front.
use Rattle.std.proofs.Common.{◌≡◌, ◌∙◌, ◌&&◌, ◌||◌, ℕ, Bool, true, false, not, refl, sym, ap, List, [], ◌∷◌, map, Some}
use Rattle.std.specs.Prelude.{cond, find, is_some, option_map}
use Rattle.std.specs.List.{list_all, list_any}
use Rattle.std.specs.Str.{bytes_eq}
use Rattle.command_words.specs.CommandLine.{all_differ}
use Rattle.command_words.specs.MapLine.{are_map_options, given_for, is_flag, is_map_option, map_options}

pub after_flag : (word : List ℕ) (words : List (List ℕ)) → is_flag word ≡ true → map_options (word ∷ words) ≡ (word, []) ∷ map_options words
after_flag word [] flag = refl
after_flag word (value ∷ words) flag = ap (λ b. cond b ((word, []) ∷ map_options (value ∷ words)) ((word, value) ∷ map_options words)) flag

pub after_value : (word value : List ℕ) (words : List (List ℕ)) → is_flag word ≡ false → map_options (word ∷ value ∷ words) ≡ (word, value) ∷ map_options words
after_value word value words none = ap (λ b. cond b ((word, []) ∷ map_options (value ∷ words)) ((word, value) ∷ map_options words)) none

-- an option has a value where its word is among those that are given
pub is_given : (word : List ℕ) (ps : List (List ℕ × List ℕ)) → is_some (given_for word ps) ≡ list_any (bytes_eq word) (map (λ given. given.0) ps)
is_given word [] = refl
is_given word (p ∷ ps) = step (bytes_eq word p.0) (is_given word ps)
  where
    step : (b : Bool) → is_some (given_for word ps) ≡ list_any (bytes_eq word) (map (λ given. given.0) ps)
        → is_some (option_map (λ given. given.1) (cond b (Some p) (find (λ given. bytes_eq word given.0) ps))) ≡ (b || list_any (bytes_eq word) (map (λ given. given.0) ps))
    step true e = refl
    step false e = e

shuffle : (a b c d : Bool) → ((a && b) && (c && d)) ≡ (a && (c && (b && d)))
shuffle true true c d = refl
shuffle true false true d = refl
shuffle true false false d = refl
shuffle false b c d = refl

-- an option and what is behind it
pub options_step : (p : List ℕ × List ℕ) (ps : List (List ℕ × List ℕ))
    → are_map_options (p ∷ ps) ≡ (is_map_option p && (not (is_some (given_for p.0 ps)) && are_map_options ps))
options_step p ps =
    shuffle (is_map_option p) (list_all is_map_option ps) (not (list_any (bytes_eq p.0) (map (λ given. given.0) ps))) (all_differ (map (λ given. given.0) ps))
    ∙ ap (λ b. is_map_option p && (not b && are_map_options ps)) (sym (is_given p.0 ps))

-- an option that is known and not given again says nothing against the others
pub passed : (all : List (List ℕ × List ℕ)) (p : List ℕ × List ℕ) (ps : List (List ℕ × List ℕ)) → all ≡ p ∷ ps → is_map_option p ≡ true
    → is_some (given_for p.0 ps) ≡ false → are_map_options all ≡ are_map_options ps
passed all p ps is known once = ap are_map_options is ∙ options_step p ps ∙ rw (known, once) refl

pub unknown : (all : List (List ℕ × List ℕ)) (p : List ℕ × List ℕ) (ps : List (List ℕ × List ℕ)) → all ≡ p ∷ ps → is_map_option p ≡ false → are_map_options all ≡ false
unknown all p ps is known = ap are_map_options is ∙ options_step p ps ∙ ap (λ b. b && (not (is_some (given_for p.0 ps)) && are_map_options ps)) known

none : (a b : Bool) → (a && (false && b)) ≡ false
none true b = refl
none false b = refl

pub repeated : (all : List (List ℕ × List ℕ)) (p : List ℕ × List ℕ) (ps : List (List ℕ × List ℕ)) → all ≡ p ∷ ps → is_some (given_for p.0 ps) ≡ true → are_map_options all ≡ false
repeated all p ps is again = ap are_map_options is ∙ options_step p ps ∙ ap (λ b. is_map_option p && (not b && are_map_options ps)) again ∙ none (is_map_option p) (are_map_options ps)
