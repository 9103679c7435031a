-- The names and the layer among the words of `congestion_map`.
use Rattle.std.proofs.Common.{◌≡◌, ◌∙◌, ◌==◌, ◌&&◌, ◌++◌, ◌<◌, ◌≤◌, ℕ, Bool, true, false, not, refl, sym, ap, subst, arith, List, [], ◌∷◌, map, length, take, get_or, Option, Some, None}
use Rattle.std.specs.Prelude.{cond, find, option_map, slice_index_or}
use Rattle.std.proofs.lemmas.Option.{get_or_from_slice_get, slice_get-get_or, slice_get-map}
use Rattle.std.specs.List.{list_all, list_any}
use Rattle.std.specs.Str.{bytes_eq}
use Rattle.std.proofs.lemmas.Bool.{and_parts}
use Rattle.std.proofs.lemmas.Slice.Eq.{bytes_eq-Decides}
use Rattle.command_words.specs.CommandLine.{all_differ, is_file_name}
use Rattle.command_words.specs.MapLine.{are_map_names, are_map_options, cut_in, given_for, given_map_options, has_map_form, in_list, is_layer, is_map_command, is_map_option, layer_word, map_names}

abbrev Text : Type 0
Text = List ℕ

counted : (words : List Text) → 3 ≤ length words → (length (take 3 words) == 3) ≡ true
counted [] long = absurd (omega (arith, long))
counted (a ∷ []) long = absurd (omega (arith, long))
counted (a ∷ b ∷ []) long = absurd (omega (arith, long))
counted (a ∷ b ∷ c ∷ words) long = refl

abbrev pub are_three : List Text → Bool
are_three names = list_all is_file_name names && all_differ names

and_false : (a : Bool) → (a && false) ≡ false
and_false true = refl
and_false false = refl

-- the certificate's name behind the others
last : (a n d : Bool) → (a && (n && d)) ≡ ((a && d) && n)
last true true true = refl
last true true false = refl
last true false d = sym (and_false d)
last false n d = refl

named : (words : List Text) → 3 ≤ length words → are_map_names words ≡ (list_all is_file_name (map_names words) && all_differ (in_list (cut_in words) ++ map_names words))
named words long = ap (λ b. b && (list_all is_file_name (map_names words) && all_differ (in_list (cut_in words) ++ map_names words))) (counted words long)

pub alone : (words : List Text) → 3 ≤ length words → cut_in words ≡ None → are_map_names words ≡ are_three (take 3 words)
alone words long none = named words long ∙ ap (λ (o : Option Text). list_all is_file_name (map_names words) && all_differ (in_list o ++ map_names words)) none

pub with_cut : (words : List Text) (cut : Text) → 3 ≤ length words → cut_in words ≡ Some cut
    → are_map_names words ≡ (are_three (take 3 words) && not (list_any (bytes_eq cut) (take 3 words)))
with_cut words cut long some =
    named words long ∙ ap (λ (o : Option Text). list_all is_file_name (map_names words) && all_differ (in_list o ++ map_names words)) some
    ∙ last (list_all is_file_name (map_names words)) (not (list_any (bytes_eq cut) (map_names words))) (all_differ (map_names words))

pub misnamed : (words : List Text) → 3 ≤ length words → are_three (take 3 words) ≡ false → are_map_names words ≡ false
misnamed words long none = step (cut_in words) refl
  where
    step : (o : Option Text) → cut_in words ≡ o → are_map_names words ≡ false
    step None e = alone words long e ∙ none
    step (Some cut) e = with_cut words cut long e ∙ ap (λ b. b && not (list_any (bytes_eq cut) (take 3 words))) none

pub too_few : (words : List Text) → length words < 3 → is_map_command words ≡ false
too_few [] few = refl
too_few (a ∷ []) few = refl
too_few (a ∷ b ∷ []) few = refl
too_few (a ∷ b ∷ c ∷ words) few = absurd (omega (arith, few))

-- the value that is given for the layer is a layer's number
pub given_layer : (ps : List (Text × Text)) (value : Text) → list_all is_map_option ps ≡ true → given_for layer_word ps ≡ Some value → is_layer value ≡ true
given_layer [] value fit given = cc
given_layer (p ∷ ps) value fit given = step (bytes_eq layer_word p.0) refl given (given_layer ps value (and_parts (is_map_option p) (list_all is_map_option ps) fit).1)
  where
    step : (b : Bool) → bytes_eq layer_word p.0 ≡ b → option_map (λ g. g.1) (cond b (Some p) (find (λ g. bytes_eq layer_word g.0) ps)) ≡ Some value
        → (given_for layer_word ps ≡ Some value → is_layer value ≡ true) → is_layer value ≡ true
    step false e given behind = behind given
    step true e given behind =
        let word : layer_word ≡ p.0 = (bytes_eq-Decides layer_word p.0).0 e in
        let same : p.1 ≡ value = cc in
        subst (λ (t : Text). is_layer t ≡ true) same (subst (λ (w : Text). is_map_option (w, p.1) ≡ true) (sym word) (and_parts (is_map_option p) (list_all is_map_option ps) fit).0)

pub layer_of_options : (ps : List (Text × Text)) (value : Text) → are_map_options ps ≡ true → given_for layer_word ps ≡ Some value → is_layer value ≡ true
layer_of_options ps value are given = given_layer ps value (and_parts (list_all is_map_option ps) (all_differ (map (λ g. g.0) ps)) are).0 given

-- words without a part are no command
pub no_names : (words : List Text) → are_map_names words ≡ false → is_map_command words ≡ false
no_names words none = ap (λ b. b && (are_map_options (given_map_options words) && has_map_form words)) none

pub no_options : (words : List Text) → are_map_options (given_map_options words) ≡ false → is_map_command words ≡ false
no_options words none = ap (λ b. are_map_names words && (b && has_map_form words)) none ∙ and_false (are_map_names words)

pub no_form : (words : List Text) → has_map_form words ≡ false → is_map_command words ≡ false
no_form words none = ap (λ b. are_map_names words && (are_map_options (given_map_options words) && b)) none
    ∙ ap (λ b. are_map_names words && b) (and_false (are_map_options (given_map_options words))) ∙ and_false (are_map_names words)

pub is_map : (words : List Text) → are_map_names words ≡ true → are_map_options (given_map_options words) ≡ true → has_map_form words ≡ true → is_map_command words ≡ true
is_map words names options form = rw (names, options, form) refl

-- the bytes of a word at its place
pub word_is : {X : Type 0} (f : X → Text) (xs : List X) (place : ℕ) (x : X) → place < length xs → x ≡ get_or xs place x → slice_index_or (map f xs) place [] ≡ f x
word_is f xs place x within is =
    get_or_from_slice_get (map f xs) place (f x) [] (slice_get-map f xs place ∙ ap (option_map f) (slice_get-get_or xs place x within ∙ ap (λ y. Some y) (sym is)))
