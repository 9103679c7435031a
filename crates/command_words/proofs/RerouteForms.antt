-- Words of `reroute` have one of its two forms at most.
use Rattle.std.proofs.Common.{◌≡◌, ◌∙◌, ◌&&◌, ◌||◌, ℕ, Bool, true, false, refl, sym, ap, true≢false, List, [], ◌∷◌, map, Result, Ok, Err, IfErr}
use Rattle.std.proofs.lemmas.Bool.{and_parts}
use Rattle.std.specs.List.{list_all}
use Rattle.clap.specs.Words.{Text}
use Rattle.command_words.specs.declared.kind.Kind.TheVariants.{Reroute}
use Rattle.command_words.specs.declared.words_error.WordsError.{WordsError}
use Rattle.command_words.specs.declared.words_error.WordsError.TheVariants.{Refused}
use Rattle.command_words.specs.CommandLine.{all_differ, are_names, are_options, are_pairs, has_option, has_shape, has_values_in_range, in_pairs, is_command_of, is_file_name, is_value_word}
use Rattle.command_words.specs.RerouteLine.{is_reroute, reroute_form, reroute_routes_form, reroute_words}
use Rattle.command_words.proofs.Rules.{of_option, sound}

-- the word of an option is no name
no_name : (word : Text) → has_option reroute_form word ≡ true → is_file_name word ≡ false
no_name = of_option Reroute (λ word. is_file_name word ≡ false) (λ option is. ap is_file_name (sound option).word)

abbrev fits : List ℕ × List ℕ → Bool
fits given = has_option reroute_form given.0 && is_value_word given.1

-- options begin with the word of one
first_option : (word : Text) (words : List Text) → are_options reroute_form (word ∷ words) ≡ true → has_option reroute_form word ≡ true
first_option word [] e = absurd (true≢false (sym e))
first_option word (value ∷ words) e =
    let ps = in_pairs (word ∷ value ∷ words) in
    let fit = and_parts (are_pairs (word ∷ value ∷ words)) (list_all fits ps && all_differ (map (λ given. given.0) ps)) e in
    let all = and_parts (list_all fits ps) (all_differ (map (λ given. given.0) ps)) fit.1 in
    let first = and_parts (fits (word, value)) (list_all fits (in_pairs words)) all.0 in
    (and_parts (has_option reroute_form word) (is_value_word value) first.0).0

-- the third of three names
third_name : (a b c : Text) (words : List Text) → has_shape reroute_routes_form (reroute_words (a ∷ b ∷ c ∷ words)) ≡ true → is_file_name c ≡ true
third_name a b c words shaped =
    let names = a ∷ b ∷ c ∷ [] in
    let named = (and_parts (are_names reroute_routes_form names) (are_options reroute_routes_form words) shaped).0 in
    let files = (and_parts (list_all is_file_name names) (all_differ names) named).0 in
    let behind = (and_parts (is_file_name a) (list_all is_file_name (b ∷ c ∷ [])) files).1 in
    let last = (and_parts (is_file_name b) (list_all is_file_name (c ∷ [])) behind).1 in
    (and_parts (is_file_name c) true last).0

-- what is a name in the one form is an option in the other
not_both : (words : List Text) → has_shape reroute_routes_form (reroute_words words) ≡ true → has_shape reroute_form (reroute_words words) ≡ false
not_both [] shaped = absurd (true≢false (sym shaped))
not_both (a ∷ []) shaped = absurd (true≢false (sym shaped))
not_both (a ∷ b ∷ []) shaped = absurd (true≢false (sym shaped))
not_both (a ∷ b ∷ c ∷ words) shaped = step (has_shape reroute_form (reroute_words (a ∷ b ∷ c ∷ words))) refl
  where
    step : (known : Bool) → has_shape reroute_form (reroute_words (a ∷ b ∷ c ∷ words)) ≡ known → known ≡ false
    step false e = refl
    step true e =
        let options = (and_parts (are_names reroute_form (a ∷ b ∷ [])) (are_options reroute_form (c ∷ words)) e).1 in
        absurd (true≢false (sym (third_name a b c words shaped) ∙ no_name c (first_option c words options)))

neither : (a b : Bool) → a ≡ false → b ≡ false → (a || b) ≡ false
neither false false e f = refl
neither true b e f = e
neither false true e f = f

-- words of the form with routes whose values are out of range are no command of the other form
pub refused_with : {T : Type 0} (r : Result T WordsError) (words : List Text) → has_shape reroute_routes_form (reroute_words words) ≡ true
    → IfErr r (λ e. e ≡ Refused → is_command_of (reroute_words words) reroute_routes_form ≡ false) → IfErr r (λ e. e ≡ Refused → is_reroute words ≡ false)
refused_with (Ok x) words shaped none = tt
refused_with (Err e) words shaped none = λ is.
    neither (is_command_of (reroute_words words) reroute_routes_form) (is_command_of (reroute_words words) reroute_form) (none is)
    (ap (λ b. b && has_values_in_range reroute_form (reroute_words words)) (not_both words shaped))
