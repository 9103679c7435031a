-- Words begin with the word of one command at most.
use Rattle.std.proofs.Common.{◌≡◌, ◌∙◌, ◌&&◌, ◌≤◌, true, false, refl, sym, ap, subst, arith, true≢false, List, [], ◌∷◌, Result, Ok, Err, IfErr, IfOk, String, drop, map, length}
use Rattle.std.proofs.lemmas.List.{drop-map}
use Rattle.std.specs.Prelude.{string_bytes}
use Rattle.std.proofs.lemmas.Bool.{and_parts}
use Rattle.std.proofs.Math.Bool.{or-false}
use Rattle.std.specs.Str.{bytes_eq}
use Rattle.std.proofs.lemmas.Slice.Eq.{bytes_eq-Decides}
use Rattle.clap.specs.Words.{Text}
use Rattle.command_words.specs.declared.verb.Verb.{Verb}
use Rattle.command_words.specs.declared.command.Command.{Command}
use Rattle.command_words.specs.declared.words_error.WordsError.{WordsError}
use Rattle.command_words.specs.declared.words_error.WordsError.TheVariants.{Refused}
use Rattle.command_words.specs.declared.verb.Verb.TheVariants.{Route, Measure, Judge, Make, Trial, Eco, Climb, Guide}
use Rattle.command_words.specs.CommandLine.{AsksFor, are_names, are_options, begins_with, has_shape, has_values_in_range, is_command, is_command_of, names_in, option_words}
use Rattle.command_words.specs.Kinds.{verb_form}

no_word_of : (first : Text) (rest : List Text) → ((verb : Verb) → bytes_eq first (verb_form verb).word ≡ false) → is_command (first ∷ rest) ≡ false
no_word_of first rest none = rw (none Route, none Measure, none Judge, none Make, none Trial, none Eco, none Climb, none Guide) refl

-- words that begin with the word of a command may be this one alone
only : (verb : Verb) (rest : List Text) → is_command ((verb_form verb).word ∷ rest) ≡ is_command_of ((verb_form verb).word ∷ rest) (verb_form verb)
only Route rest = or-false _
only Measure rest = or-false _
only Judge rest = or-false _
only Make rest = or-false _
only Trial rest = or-false _
only Eco rest = or-false _
only Climb rest = or-false _
only Guide rest = or-false _

pub no_other : (verb : Verb) (first : Text) (rest : List Text) → bytes_eq first (verb_form verb).word ≡ true
    → is_command_of (first ∷ rest) (verb_form verb) ≡ false → is_command (first ∷ rest) ≡ false
no_other verb first rest begins none =
    let same : first ≡ (verb_form verb).word = (bytes_eq-Decides first (verb_form verb).word).0 begins in
    ap (λ (word : Text). is_command (word ∷ rest)) same ∙ only verb rest
    ∙ ap (λ (word : Text). is_command_of (word ∷ rest) (verb_form verb)) (sym same) ∙ none

misshapen_of : (verb : Verb) (first : Text) (rest : List Text) → bytes_eq first (verb_form verb).word ≡ true
    → has_shape (verb_form verb) (first ∷ rest) ≡ false → is_command (first ∷ rest) ≡ false
misshapen_of verb first rest begins none = no_other verb first rest begins (ap (λ b. b && has_values_in_range (verb_form verb) (first ∷ rest)) none)

refused : (verb : Verb) (words : List Text) → has_shape (verb_form verb) words ≡ true → is_command_of words (verb_form verb) ≡ false → is_command words ≡ false
refused verb [] shaped none = absurd (true≢false (sym shaped))
refused verb (first ∷ rest) shaped none =
    let words = first ∷ rest in
    no_other verb first rest (and_parts (begins_with (verb_form verb).word words)
    (are_names (verb_form verb) (names_in (verb_form verb) words) && are_options (verb_form verb) (option_words (verb_form verb) words)) shaped).0 none

pub refusals : {T : Type 0} (r : Result T WordsError) (verb : Verb) (words : List Text) → has_shape (verb_form verb) words ≡ true
    → IfErr r (λ e. e ≡ Refused → is_command_of words (verb_form verb) ≡ false) → IfErr r (λ e. e ≡ Refused → is_command words ≡ false)
refusals (Ok x) verb words shaped none = tt
refusals (Err e) verb words shaped none = λ is. refused verb words shaped (none is)

pub no_word : (words : List Text) (first : Text) (rest : List Text) → words ≡ first ∷ rest → ((verb : Verb) → bytes_eq first (verb_form verb).word ≡ false) → is_command words ≡ false
no_word words first rest is none = ap is_command is ∙ no_word_of first rest none

pub misshapen : (verb : Verb) (words : List Text) (first : Text) (rest : List Text) → words ≡ first ∷ rest → bytes_eq first (verb_form verb).word ≡ true
    → (are_names (verb_form verb) (names_in (verb_form verb) (first ∷ rest)) && are_options (verb_form verb) (option_words (verb_form verb) (first ∷ rest))) ≡ false → is_command words ≡ false
misshapen verb words first rest is begins none = ap is_command is ∙ misshapen_of verb first rest begins (rw (begins, none) refl)

-- words of a command's shape begin with its word
pub begun : (verb : Verb) (words : List Text) → has_shape (verb_form verb) words ≡ true → words ≡ (verb_form verb).word ∷ drop 1 words
begun verb [] shaped = absurd (true≢false (sym shaped))
begun verb (first ∷ rest) shaped =
    let words = first ∷ rest in
    ap (λ (word : Text). word ∷ rest) ((bytes_eq-Decides first (verb_form verb).word).0 (and_parts (begins_with (verb_form verb).word words)
    (are_names (verb_form verb) (names_in (verb_form verb) words) && are_options (verb_form verb) (option_words (verb_form verb) words)) shaped).0)

-- and there is a word at least
pub has_word : {Z : Type 0} (verb : Verb) (words : List (String Z)) → has_shape (verb_form verb) (map string_bytes words) ≡ true → 1 ≤ length words
has_word verb [] shaped = absurd (true≢false (sym shaped))
has_word verb (word ∷ words) shaped = omega arith

-- the command's word and the words behind it
pub parted_words : {Z : Type 0} (verb : Verb) (words rest : List (String Z)) → rest ≡ drop 1 words → has_shape (verb_form verb) (map string_bytes words) ≡ true
    → map string_bytes words ≡ (verb_form verb).word ∷ map string_bytes rest
parted_words verb words rest is shaped =
    begun verb (map string_bytes words) shaped ∙ ap (λ (ws : List Text). (verb_form verb).word ∷ ws) (drop-map string_bytes 1 words ∙ ap (map string_bytes) (sym is))

pub asked_of : (r : Result Command WordsError) (words same : List Text) → words ≡ same → IfOk r (AsksFor same) → IfOk r (AsksFor words)
asked_of r words same is asked = subst (λ (ws : List Text). IfOk r (AsksFor ws)) (sym is) asked

pub refused_of : (r : Result Command WordsError) (verb : Verb) (words same : List Text) → words ≡ same → has_shape (verb_form verb) words ≡ true
    → IfErr r (λ e. e ≡ Refused → is_command_of same (verb_form verb) ≡ false) → IfErr r (λ e. e ≡ Refused → is_command words ≡ false)
refused_of r verb words same is shaped none =
    refusals r verb words shaped (subst (λ (ws : List Text). IfErr r (λ e. e ≡ Refused → is_command_of ws (verb_form verb) ≡ false)) (sym is) none)
