-- The words of a command taken apart, and what a parse of them gives.
use Rattle.std.proofs.Common.{◌≡◌, ◌∙◌, ◌==◌, ◌&&◌, ◌-◌, ◌<◌, ℕ, zero, suc, true, refl, sym, ap, subst, arith, true≢false, List, [], ◌∷◌, map, length, take, drop, Option, Some, None, Result}
use Rattle.std.proofs.lemmas.Bool.{and_parts}
use Rattle.std.specs.Prelude.{IfSome, IsSome, find, slice_get}
use Rattle.std.specs.List.{list_all}
use Rattle.std.specs.Str.{bytes_eq}
use Rattle.std.specs.Str.Parse.{HasUnsignedDigitsIfOk, ParsesUnsigned}
use Rattle.std.proofs.lemmas.Bool.Decides.{nat_tests}
use Rattle.clap.specs.Words.{Row, Text, fault_of, found_of, matches_of, one_of, one_text, rows_of}
use Rattle.clap.specs.Matches.{ReadsOne}
use Rattle.clap.specs.declared.parser.matches.ArgMatches.{ArgMatches}
use Rattle.clap.proofs.WalkLemmas.{one_text-rows}
use Rattle.command_words.specs.declared.kind.Kind.{Kind}
use Rattle.command_words.specs.declared.option_name.OptionName.{OptionName}
use Rattle.command_words.specs.CommandLine.{CommandForm, IsOptionValue, OptionForm, all_differ, are_names, are_options, are_pairs, begins_with, given_options, has_option, has_shape, has_values_in_range, in_pairs, is_command_of, names_in, option_words, value_for, value_or}
use Rattle.command_words.specs.Kinds.{form_of, id_of, option_named, option_of}
use Rattle.command_words.specs.Apps.{AreReadWords, app_of_kind, found_in}
use Rattle.command_words.proofs.Uses.{all_faults}
use Rattle.command_words.proofs.Rules.{is_given_in_range, known_option}
use Rattle.command_words.proofs.Found.{fault_is, fits, none_refused, number_is, number_ranged, refused_none, use_of}

-- ---- how many words stand before the options

pub names_counted : (form : CommandForm) (words : List Text) → has_shape form words ≡ true → length (names_in form words) ≡ form.names
names_counted form words shaped =
    let outer = and_parts (begins_with form.word words) (are_names form (names_in form words) && are_options form (option_words form words)) shaped in
    let inner = and_parts (are_names form (names_in form words)) (are_options form (option_words form words)) outer.1 in
    let counted : (length (names_in form words) == form.names) ≡ true =
    (and_parts (length (names_in form words) == form.names) (list_all form.is_name (names_in form words) && all_differ (names_in form words)) inner.0).0 in
    grind (arith, nat_tests)

-- one word stands before those behind n words of more
before : (n : ℕ) (x : Text) (xs : List Text) → length (take n xs) ≡ n → (w : Text) × (drop n (x ∷ xs) ≡ w ∷ drop n xs) × (n < length (x ∷ xs))
before zero x xs long = (x, refl, omega arith)
before (suc n) x [] long = cc
before (suc n) x (y ∷ xs) long =
    let rest = before n y xs (omega (arith, long)) in
    (rest.0, rest.1, omega (arith, rest.2))

-- options with their values, behind one word that stands before them
pub record IsParted (kind : Kind) (words : List Text) : Type 0 where
  pub first : Text
  pub rest : List Text
  pub is : drop (form_of kind).names words ≡ first ∷ rest
  pub within : (form_of kind).names < length words
  pub given : rest ≡ option_words (form_of kind) words
  pub even : are_pairs rest ≡ true
  pub fit : list_all (fits kind) (in_pairs rest) ≡ true
  pub differ : all_differ (map (λ given. given.0) (in_pairs rest)) ≡ true

pub parted : (kind : Kind) (words : List Text) → has_shape (form_of kind) words ≡ true → IsParted kind words
parted kind [] shaped = absurd (true≢false (sym shaped))
parted kind (word ∷ words) shaped =
    let form = form_of kind in
    let rest : List Text = drop form.names words in
    let outer = and_parts (begins_with form.word (word ∷ words)) (are_names form (take form.names words) && are_options form rest) shaped in
    let inner = and_parts (are_names form (take form.names words)) (are_options form rest) outer.1 in
    let even = and_parts (are_pairs rest) (list_all (fits kind) (in_pairs rest) && all_differ (map (λ given. given.0) (in_pairs rest))) inner.1 in
    let fit = and_parts (list_all (fits kind) (in_pairs rest)) (all_differ (map (λ given. given.0) (in_pairs rest))) even.1 in
    let one = before form.names word words (names_counted form (word ∷ words) shaped) in
    record { first = one.0; rest = rest; is = one.1; within = one.2; given = refl; even = even.0; fit = fit.0; differ = fit.1 }

pub found_is : (kind : Kind) (words : List Text) → found_in kind words ≡ matches_of (app_of_kind kind) (drop (form_of kind).names words)
unfolding found_in
found_is kind words = refl

module _ (kind : Kind) (words : List Text) (shaped : has_shape (form_of kind) words ≡ true) where
  abbrev p : IsParted kind words
  p = parted kind words shaped

  ranged_is : list_all (is_given_in_range kind) (in_pairs p.rest) ≡ has_values_in_range (form_of kind) words
  ranged_is = ap (λ (ws : List Text). list_all (is_given_in_range kind) (in_pairs ws)) p.given

  abbrev behind : List Text
  behind = drop (form_of kind).names words

  faults_are : fault_of (app_of_kind kind) behind ≡ all_faults (map (use_of kind) (in_pairs p.rest))
  faults_are = ap (fault_of (app_of_kind kind)) p.is ∙ fault_is kind p.first p.rest p.even p.fit p.differ

  -- a parse fails for want of memory alone exactly where the values are in range
  pub fails : fault_of (app_of_kind kind) behind ≡ [] → has_values_in_range (form_of kind) words ≡ true
  fails none = sym ranged_is ∙ refused_none kind (in_pairs p.rest) p.fit (sym faults_are ∙ none)

  pub passes : has_values_in_range (form_of kind) words ≡ true → fault_of (app_of_kind kind) behind ≡ []
  passes ranged = faults_are ∙ none_refused kind (in_pairs p.rest) p.fit (ranged_is ∙ ranged)

  matches_are : matches_of (app_of_kind kind) behind ≡ matches_of (app_of_kind kind) (p.first ∷ p.rest)
  matches_are = ap (matches_of (app_of_kind kind)) p.is

  module _ (option : OptionName) (has : has_option (form_of kind) (option_of option).word ≡ true) (named : option_named kind (option_of option).word ≡ option) (ranged : has_values_in_range (form_of kind) words ≡ true) where
    values_are : value_for (option_of option) (in_pairs p.rest) ≡ value_for (option_of option) (given_options (form_of kind) words)
    values_are = ap (λ (ws : List Text). value_for (option_of option) (in_pairs ws)) p.given

    value_there : {E : Type 0} (G : List ℕ → Result ℕ E → Type 0) → ((u : List ℕ) (r : Result ℕ E) → G u r → ParsesUnsigned 64 10 u r)
        → (r : Option ℕ) → (one_of (id_of option) (matches_of (app_of_kind kind) behind) ≡ None → r ≡ None)
        → ((t : Text) → one_of (id_of option) (matches_of (app_of_kind kind) behind) ≡ Some t → ReadsOne G t r)
        → value_for (option_of option) (given_options (form_of kind) words) ≡ r
    value_there {E = E} G only r none some =
        sym values_are ∙ number_is kind p.first p.rest p.even p.fit p.differ option (known_option kind option has named) (ranged_is ∙ ranged) E G only r
        (λ e. none (ap (one_of (id_of option)) matches_are ∙ e)) (λ t e. some t (ap (one_of (id_of option)) matches_are ∙ e))

    pub value_in_range : (r : Option ℕ) → value_for (option_of option) (given_options (form_of kind) words) ≡ r → IfSome r (IsOptionValue (option_of option))
    value_in_range None is = tt
    value_in_range (Some n) is =
        number_ranged kind p.first p.rest p.even p.fit p.differ option (known_option kind option has named) (ranged_is ∙ ranged) n (values_are ∙ is)

-- how `u64` reads a text, where its errors are explained so
abbrev GivesNumber : {E : Type 0} → (List ℕ → Result ℕ E → Type 0) → List ℕ → Result ℕ E → Type 0
GivesNumber explains bs r = ParsesUnsigned 64 10 bs r × explains bs r × HasUnsignedDigitsIfOk bs r

-- what the getters of a parse give
module _ (m : ArgMatches) (kind : Kind) (words : List Text) (read : AreReadWords kind words (rows_of (found_of m))) where
  abbrev given : List Text
  given = drop (form_of kind).names words

  rows_are : rows_of (found_of m) ≡ matches_of (app_of_kind kind) given
  rows_are = read.found ∙ found_is kind words

  pub value_read : (option : OptionName) → has_option (form_of kind) (option_of option).word ≡ true → option_named kind (option_of option).word ≡ option
      → {E : Type 0} (explains : List ℕ → Result ℕ E → Type 0) (r : Option ℕ) (id : Text) → id ≡ id_of option
      → (one_text (found_of m) id ≡ None → r ≡ None) → ((t : Text) → one_text (found_of m) id ≡ Some t → ReadsOne (GivesNumber explains) t r)
      → value_for (option_of option) (given_options (form_of kind) words) ≡ r
  value_read option has named explains r id same none some =
      value_there kind words read.shaped option has named read.in_range (GivesNumber explains) (λ u x gives. gives.0) r (λ e. none (text ∙ e)) (λ t e. some t (text ∙ e))
    where
      text : one_text (found_of m) id ≡ one_of (id_of option) (matches_of (app_of_kind kind) given)
      text = one_text-rows (found_of m) id ∙ ap (one_of id) rows_are ∙ ap (λ (i : Text). one_of i (matches_of (app_of_kind kind) given)) same

-- an option with a default always has a value
pub some_value : (form : OptionForm) (ps : List (List ℕ × List ℕ)) → IsSome form.unless_given → (r : Option ℕ) → value_for form ps ≡ r → IsSome r
some_value form ps default (Some v) is = refl
some_value form ps default None is = step (find (λ given. bytes_eq given.0 form.word) ps) is default
  where
    step : (o : Option (List ℕ × List ℕ)) → value_or form.unless_given o ≡ None → IsSome form.unless_given → IsSome {T = ℕ} None
    step None h has = subst (λ (o : Option ℕ). IsSome o) h has
    step (Some given) h has = cc

-- ---- the names as a list

slice_get-front : (n place : ℕ) (xs : List Text) → place < n → slice_get (take n xs) place ≡ slice_get xs place
slice_get-front zero place xs below = absurd (omega arith)
slice_get-front (suc n) place [] below = refl
slice_get-front (suc n) zero (x ∷ xs) below = refl
slice_get-front (suc n) (suc place) (x ∷ xs) below = slice_get-front n place xs (omega (arith, below))

-- a name is a word behind the first
pub name_is : (form : CommandForm) (word : Text) (words : List Text) (place : ℕ) (t : Text) → place < form.names → slice_get words place ≡ Some t
    → slice_get (names_in form (word ∷ words)) place ≡ Some t
name_is form word words place t below is = slice_get-front form.names place words below ∙ is

-- words behind as many words and one more
pub drop_behind : (n count : ℕ) (word : Text) (words : List Text) → 0 < n → count ≡ n - 1 → drop n (word ∷ words) ≡ drop count words
drop_behind zero count word words some is = absurd (omega (arith, some))
drop_behind (suc n) count word words some is =
    let same : n ≡ count = omega (arith, is) in
    ap (λ k. drop k words) same

-- words that were read as a command are this one
pub is_read : (kind known : Kind) (words : List Text) (rows : List Row) → AreReadWords kind words rows → kind ≡ known → is_command_of words (form_of known) ≡ true
is_read kind known words rows read same = subst (λ (k : Kind). is_command_of words (form_of k) ≡ true) same (rw (read.shaped, read.in_range) refl)
