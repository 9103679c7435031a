-- What clap finds in the words of a command, and when it refuses them.
use Rattle.std.proofs.Common.{◌≡◌, ◌∙◌, ◌&&◌, ◌||◌, ℕ, Bool, true, false, not, refl, sym, ap, subst, arith, true≢false, List, [], ◌∷◌, map, Option, Some, None, Result, nat_le}
use Rattle.std.proofs.lemmas.Bool.{and_parts}
use Rattle.std.specs.Prelude.{cond, find, fold, is_some, option_and_then, option_map}
use Rattle.std.specs.List.{list_all, list_any}
use Rattle.std.specs.Str.{bytes_eq}
use Rattle.std.specs.Str.Parse.{ParsesUnsigned, digits_value}
use Rattle.std.proofs.lemmas.Bool.Decides.{nat_tests}
use Rattle.std.proofs.lemmas.Slice.Eq.{bytes_eq-Decides}
use Rattle.std.proofs.Math.Bool.{or-false}
use Rattle.clap.specs.Words.{Row, Rule, Text, matches_of, one_of, read_as}
use Rattle.clap.specs.Simple.{built}
use Rattle.clap.specs.Walk.{Held, Walk, finished, has_row, idle, nothing_held, reading_by, row_text, settled, walk, with_default}
use Rattle.clap.specs.Faults.{check_fault, defaults_fault, fault_of, settle_fault, values_fault}
use Rattle.clap.specs.Kinds.{Kinds, or_else}
use Rattle.clap.specs.Matches.{ReadsOne}
use Rattle.clap.specs.declared.builder.value_parser.Reading.TheVariants.{AsWritten}
use Rattle.clap.specs.declared.error.kind.ErrorKind.TheVariants as kinds
use Rattle.clap.proofs.FaultLemmas.{leaf_fault}
use Rattle.command_words.specs.declared.kind.Kind.{Kind}
use Rattle.command_words.specs.declared.option_name.OptionName.{OptionName}
use Rattle.command_words.specs.CommandLine.{IsOptionValue, OptionForm, all_differ, are_pairs, has_option, in_pairs, is_value_word, value_for, value_or}
use Rattle.command_words.specs.Kinds.{form_of, id_of, option_of}
use Rattle.command_words.specs.Apps.{app_of_kind, default_text}
use Rattle.command_words.proofs.Walks.{at, or_else-nil}
use Rattle.command_words.proofs.Uses.{AreSingle, AreUses, Use, after_uses, all_faults, all_faults_are, faults_of, ids_of, row_for, rows_after_uses, uses_fault, uses_walk}
use Rattle.command_words.proofs.Defaults.{default_is_found, found_stays, no_default_fault, row_at}
use Rattle.command_words.proofs.Values.{accepts_is, in_range, no_hyphen, reads_number}
use Rattle.command_words.proofs.Rules.{HasDefault, IsOption, is_given_in_range, known, of_option, option_word, rule_for, rule_is, rules, shape, sound}

abbrev pub Given : Type 0
Given = List ℕ × List ℕ

-- ---- options with their values, as clap's walk sees them

abbrev pub use_of : Kind → Given → Use
use_of kind given = (rule_for kind given.0, given.1)

abbrev pub fits : Kind → Given → Bool
fits kind given = has_option (form_of kind) given.0 && is_value_word given.1

are_uses : (kind : Kind) (words : List Text) → are_pairs words ≡ true → list_all (fits kind) (in_pairs words) ≡ true → AreUses (rules kind) words (map (use_of kind) (in_pairs words))
are_uses kind [] even fit = tt
are_uses kind (word ∷ []) even fit = absurd (true≢false (sym even))
are_uses kind (word ∷ text ∷ words) even fit =
    let parts = and_parts (fits kind (word, text)) (list_all (fits kind) (in_pairs words)) fit in
    let both = and_parts (has_option (form_of kind) word) (is_value_word text) parts.0 in
    (option_word kind word both.0, refl, no_hyphen text both.1, are_uses kind words even parts.1)

are_single : (kind : Kind) (ps : List Given) → list_all (fits kind) ps ≡ true → AreSingle (rules kind) (map (use_of kind) ps)
are_single kind [] fit = tt
are_single kind (given ∷ ps) fit =
    let parts = and_parts (fits kind given) (list_all (fits kind) ps) fit in
    let both = and_parts (has_option (form_of kind) given.0) (is_value_word given.1) parts.0 in
    ((option_word kind given.0 both.0).single, are_single kind ps parts.1)

word_at : (kind : Kind) (word : Text) → has_option (form_of kind) word ≡ true → word ≡ 45 ∷ 45 ∷ (rule_for kind word).id
word_at kind = of_option kind (λ word. word ≡ 45 ∷ 45 ∷ (rule_for kind word).id)
    (λ option is. (sound option).word ∙ ap (λ (r : Rule). 45 ∷ 45 ∷ r.id) (sym (rule_is kind option is)))

words_are : (kind : Kind) (ps : List Given) → list_all (fits kind) ps ≡ true → map (λ given. given.0) ps ≡ map (λ (id : Text). 45 ∷ 45 ∷ id) (ids_of (map (use_of kind) ps))
words_are kind [] fit = refl
words_are kind (given ∷ ps) fit =
    let parts = and_parts (fits kind given) (list_all (fits kind) ps) fit in
    let both = and_parts (has_option (form_of kind) given.0) (is_value_word given.1) parts.0 in
    ap (λ (word : Text). word ∷ map (λ g. g.0) ps) (word_at kind given.0 both.0) ∙ ap (λ (ws : List Text). (45 ∷ 45 ∷ (rule_for kind given.0).id) ∷ ws) (words_are kind ps parts.1)

any_dashed : (x : Text) (xs : List Text) → list_any (bytes_eq (45 ∷ 45 ∷ x)) (map (λ (id : Text). 45 ∷ 45 ∷ id) xs) ≡ list_any (bytes_eq x) xs
any_dashed x [] = refl
any_dashed x (y ∷ xs) = ap (λ b. bytes_eq x y || b) (any_dashed x xs)

differ_dashed : (xs : List Text) → all_differ (map (λ (id : Text). 45 ∷ 45 ∷ id) xs) ≡ all_differ xs
differ_dashed [] = refl
differ_dashed (x ∷ xs) = ap (λ b. not b && all_differ (map (λ (id : Text). 45 ∷ 45 ∷ id) xs)) (any_dashed x xs) ∙ ap (λ b. not (list_any (bytes_eq x) xs) && b) (differ_dashed xs)

ids_differ : (kind : Kind) (ps : List Given) → list_all (fits kind) ps ≡ true → all_differ (map (λ given. given.0) ps) ≡ true → all_differ (ids_of (map (use_of kind) ps)) ≡ true
ids_differ kind ps fit differ = sym (differ_dashed (ids_of (map (use_of kind) ps))) ∙ sym (ap all_differ (words_are kind ps fit)) ∙ differ

-- ---- what is refused

abbrev fault_unless : Bool → Kinds
fault_unless b = or_else (cond b [] (kinds.ValueValidation ∷ [])) []

value_fault_is : (kind : Kind) (word : Text) → has_option (form_of kind) word ≡ true → (t : Text) → is_value_word t ≡ true
    → values_fault (rule_for kind word) (t ∷ []) ≡ fault_unless (is_given_in_range kind (word, t))
value_fault_is kind = of_option kind (λ word. (t : Text) → is_value_word t ≡ true → values_fault (rule_for kind word) (t ∷ []) ≡ fault_unless (is_given_in_range kind (word, t)))
    (λ option is t value. ap (λ (r : Rule). values_fault r (t ∷ [])) (rule_is kind option is)
    ∙ ap fault_unless (accepts_is false (option_of option).least (option_of option).most t value (sound option).small
    ∙ sym (or-false (in_range (option_of option).least (option_of option).most t)) ∙ sym (is.2 t)))

value_is_fine : (b : Bool) (rest : Kinds) → or_else (fault_unless b) rest ≡ [] → (b ≡ true) × (rest ≡ [])
value_is_fine true rest e = (refl, e)
value_is_fine false rest e = cc

-- no value is refused exactly where all are in range
pub refused_none : (kind : Kind) (ps : List Given) → list_all (fits kind) ps ≡ true → all_faults (map (use_of kind) ps) ≡ [] → list_all (is_given_in_range kind) ps ≡ true
refused_none kind [] fit none = refl
refused_none kind (given ∷ ps) fit none =
    let parts = and_parts (fits kind given) (list_all (fits kind) ps) fit in
    let both = and_parts (has_option (form_of kind) given.0) (is_value_word given.1) parts.0 in
    let here = value_is_fine (is_given_in_range kind given) (all_faults (map (use_of kind) ps)) (ap (λ k. or_else k (all_faults (map (use_of kind) ps))) (sym (value_fault_is kind given.0 both.0 given.1 both.1)) ∙ none) in
    rw (here.0, refused_none kind ps parts.1 here.1) refl

pub none_refused : (kind : Kind) (ps : List Given) → list_all (fits kind) ps ≡ true → list_all (is_given_in_range kind) ps ≡ true → all_faults (map (use_of kind) ps) ≡ []
none_refused kind [] fit all = refl
none_refused kind (given ∷ ps) fit all =
    let parts = and_parts (fits kind given) (list_all (fits kind) ps) fit in
    let both = and_parts (has_option (form_of kind) given.0) (is_value_word given.1) parts.0 in
    let here = and_parts (is_given_in_range kind given) (list_all (is_given_in_range kind) ps) all in
    ap (λ k. or_else k (all_faults (map (use_of kind) ps))) (value_fault_is kind given.0 both.0 given.1 both.1 ∙ ap fault_unless here.0) ∙ none_refused kind ps parts.1 here.1

-- ---- rows of options

has_is : (rows : List Row) (id : Text) → has_row id rows ≡ is_some (row_at id rows)
has_is [] id = refl
has_is (r ∷ rows) id = step (bytes_eq r.id id) (has_is rows id)
  where
    step : (b : Bool) → has_row id rows ≡ is_some (row_at id rows) → (b || has_row id rows) ≡ is_some (cond b (Some r) (row_at id rows))
    step true e = refl
    step false e = e

abbrev pub given_for : Text → List Given → Option Given
given_for word ps = find (λ given. bytes_eq given.0 word) ps

abbrev row_given : Kind → Given → Row
row_given kind given = row_for (use_of kind given)

use_found : (kind : Kind) (id : Text) (ps : List Given) → list_all (fits kind) ps ≡ true → row_at id (map row_for (map (use_of kind) ps)) ≡ option_map (row_given kind) (given_for (45 ∷ 45 ∷ id) ps)
use_found kind id [] fit = refl
use_found kind id (given ∷ ps) fit =
    let parts = and_parts (fits kind given) (list_all (fits kind) ps) fit in
    let both = and_parts (has_option (form_of kind) given.0) (is_value_word given.1) parts.0 in
    let same : bytes_eq given.0 (45 ∷ 45 ∷ id) ≡ bytes_eq (rule_for kind given.0).id id = ap (λ (word : Text). bytes_eq word (45 ∷ 45 ∷ id)) (word_at kind given.0 both.0) in
    sym (ap (λ b. cond b (Some (row_given kind given)) (row_at id (map row_for (map (use_of kind) ps)))) same) ∙ step (bytes_eq given.0 (45 ∷ 45 ∷ id)) (use_found kind id ps parts.1)
  where
    step : (b : Bool) → row_at id (map row_for (map (use_of kind) ps)) ≡ option_map (row_given kind) (given_for (45 ∷ 45 ∷ id) ps)
        → cond b (Some (row_given kind given)) (row_at id (map row_for (map (use_of kind) ps))) ≡ option_map (row_given kind) (cond b (Some given) (given_for (45 ∷ 45 ∷ id) ps))
    step true e = refl
    step false e = e

found_passes : (q : Given → Bool) (word : Text) (ps : List Given) (given : Given) → list_all q ps ≡ true → given_for word ps ≡ Some given
    → (q given ≡ true) × (bytes_eq given.0 word ≡ true)
found_passes q word [] given all found = cc
found_passes q word (p ∷ ps) given all found = step (bytes_eq p.0 word) refl found (found_passes q word ps given (and_parts (q p) (list_all q ps) all).1)
  where
    step : (b : Bool) → bytes_eq p.0 word ≡ b → cond b (Some p) (given_for word ps) ≡ Some given
        → (given_for word ps ≡ Some given → (q given ≡ true) × (bytes_eq given.0 word ≡ true)) → (q given ≡ true) × (bytes_eq given.0 word ≡ true)
    step true e f more =
        let same : p ≡ given = cc in
        (subst (λ (g : Given). q g ≡ true) same (and_parts (q p) (list_all q ps) all).0, subst (λ (g : Given). bytes_eq g.0 word ≡ true) same e)
    step false e f more = more f

reading_is : (kind : Kind) (word : Text) → has_option (form_of kind) word ≡ true → reading_by (rule_for kind word) ≡ AsWritten
reading_is kind = of_option kind (λ word. reading_by (rule_for kind word) ≡ AsWritten) (λ option is. ap reading_by (rule_is kind option is))

-- the text of an option that is given, or else of its default
abbrev text_or : Option Text → Option Given → Option Text
text_or otherwise None = otherwise
text_or otherwise (Some given) = Some given.1

-- ---- all uses

rows_of_uses : (c : List Rule) (us : List Use) → AreSingle c us → all_differ (ids_of us) ≡ true → (settled c (after_uses c us nothing_held)).rows ≡ map row_for us
rows_of_uses c [] are differ = refl
rows_of_uses c (u ∷ us) are differ = rows_after_uses c us u [] are differ

faults_of_uses : (c : List Rule) (again : Bool) (us : List Use) → AreSingle c us → all_differ (ids_of us) ≡ true
    → or_else (faults_of c again us nothing_held) (settle_fault c again (after_uses c us nothing_held)) ≡ all_faults us
faults_of_uses c again [] are differ = refl
faults_of_uses c again (u ∷ us) are differ = all_faults_are c again us u [] are differ

-- ---- all of it, for a word before options with their values

module _ (kind : Kind) (w : Text) (ws : List Text)
    (even : are_pairs ws ≡ true) (fit : list_all (fits kind) (in_pairs ws) ≡ true) (differ : all_differ (map (λ given. given.0) (in_pairs ws)) ≡ true) where
  abbrev words : List Text
  words = w ∷ ws

  abbrev us : List Use
  us = map (use_of kind) (in_pairs ws)

  abbrev rows : List Row
  rows = map row_for us

  abbrev found : List Row
  found = fold with_default rows (rules kind)

  abbrev ended : Held
  ended = after_uses (rules kind) us nothing_held

  singles : AreSingle (rules kind) us
  singles = are_single kind (in_pairs ws) fit

  ids : all_differ (ids_of us) ≡ true
  ids = ids_differ kind (in_pairs ws) fit differ

  uses : AreUses (rules kind) ws us
  uses = are_uses kind ws even fit

  walk_is : walk (rules kind) [] nothing_held ws ≡ at 1 idle ended
  walk_is = uses_walk (rules kind) 1 ws us nothing_held uses

  rows_are : (settled (rules kind) ended).rows ≡ rows
  rows_are = rows_of_uses (rules kind) us singles ids

  matches_are : matches_of (app_of_kind kind) words ≡ found
  matches_are = ap (λ (k : Walk). finished (rules kind) k.held) walk_is ∙ ap (λ (rs : List Row). fold with_default rs (rules kind)) rows_are

  none_wanted : check_fault (shape kind) found false ≡ []
  none_wanted = ap (λ b. cond b (kinds.MissingRequiredArgument ∷ []) []) ((known kind).none_required found)

  pub fault_is : fault_of (app_of_kind kind) words ≡ all_faults us
  fault_is =
      let c = rules kind in
      let again = (shape kind).args_override_self in
      leaf_fault (built (app_of_kind kind)) nothing_held ws refl
      ∙ ap (λ (k : Kinds). or_else k (rest (walk c [] nothing_held ws))) (uses_fault (shape kind) 1 ws us nothing_held uses)
      ∙ ap (λ (k : Walk). or_else (faults_of c again us nothing_held) (rest k)) walk_is
      ∙ ap (λ (rs : List Row). or_else (faults_of c again us nothing_held) (or_else (settle_fault c again ended)
      (or_else (defaults_fault rs c) (check_fault (shape kind) (fold with_default rs c) false)))) rows_are
      ∙ ap (λ (k : Kinds). or_else (faults_of c again us nothing_held) (or_else (settle_fault c again ended) (or_else k (check_fault (shape kind) found false))))
      (no_default_fault c rows (known kind).defaults)
      ∙ ap (λ (k : Kinds). or_else (faults_of c again us nothing_held) (or_else (settle_fault c again ended) k)) none_wanted
      ∙ ap (or_else (faults_of c again us nothing_held)) (or_else-nil (settle_fault c again ended))
      ∙ faults_of_uses c again us singles ids
    where
      rest : Walk → Kinds
      rest k = or_else (settle_fault (rules kind) (shape kind).args_override_self k.held)
          (or_else (defaults_fault (settled (rules kind) k.held).rows (rules kind)) (check_fault (shape kind) (finished (rules kind) k.held) false))

  module _ (option : OptionName) (is : IsOption kind option) where
    abbrev id : Text
    id = id_of option

    abbrev form : OptionForm
    form = option_of option

    option_row : row_at id rows ≡ option_map (row_given kind) (given_for (45 ∷ 45 ∷ id) (in_pairs ws))
    option_row = use_found kind id (in_pairs ws) fit

    row_is : (o : Option Given) → given_for (45 ∷ 45 ∷ id) (in_pairs ws) ≡ o → option_and_then row_text (row_at id found) ≡ text_or (default_text option) o
    row_is None e =
        let same : row_at id rows ≡ None = option_row ∙ ap (option_map (row_given kind)) e in
        ap (option_and_then row_text) (default_is_found (rules kind) rows id (has_is rows id ∙ ap is_some same)) ∙ is.3
    row_is (Some given) e =
        let same : row_at id rows ≡ Some (row_given kind given) = option_row ∙ ap (option_map (row_given kind)) e in
        let passes = found_passes (fits kind) (45 ∷ 45 ∷ id) (in_pairs ws) given fit e in
        let both = and_parts (has_option (form_of kind) given.0) (is_value_word given.1) passes.0 in
        ap (option_and_then row_text) (found_stays (rules kind) rows id (has_is rows id ∙ ap is_some same) ∙ same)
        ∙ ap (λ how. Some (read_as how given.1)) (reading_is kind given.0 both.0)

    value_is : (o : Option Given) → given_for (45 ∷ 45 ∷ id) (in_pairs ws) ≡ o → value_for form (in_pairs ws) ≡ value_or form.unless_given o
    value_is o e = ap (λ (word : Text). value_or form.unless_given (given_for word (in_pairs ws))) (sound option).word ∙ ap (value_or form.unless_given) e

    one_is : (o : Option Given) → given_for (45 ∷ 45 ∷ id) (in_pairs ws) ≡ o → one_of id (matches_of (app_of_kind kind) words) ≡ text_or (default_text option) o
    one_is o e = ap (one_of id) matches_are ∙ row_is o e

    module _ (all : list_all (is_given_in_range kind) (in_pairs ws) ≡ true) where
      given_ranged : (given : Given) → given_for (45 ∷ 45 ∷ id) (in_pairs ws) ≡ Some given → IsOptionValue form (digits_value 10 given.1)
      given_ranged given e =
          let ranged = found_passes (is_given_in_range kind) (45 ∷ 45 ∷ id) (in_pairs ws) given all e in
          let word : given.0 ≡ form.word = (bytes_eq-Decides given.0 (45 ∷ 45 ∷ id)).0 ranged.1 ∙ sym (sound option).word in
          let here : in_range form.least form.most given.1 ≡ true =
          sym (or-false (in_range form.least form.most given.1)) ∙ sym (is.2 given.1) ∙ subst (λ (t : Text). is_given_in_range kind (t, given.1) ≡ true) word ranged.0 in
          let parts = and_parts (nat_le form.least (digits_value 10 given.1)) (nat_le (digits_value 10 given.1) form.most) here in
          let low = parts.0 in
          let high = parts.1 in
          (grind (arith, nat_tests), grind (arith, nat_tests))

      -- the number of an option
      pub number_is : (E : Type 0) (G : List ℕ → Result ℕ E → Type 0) → ((u : List ℕ) (r : Result ℕ E) → G u r → ParsesUnsigned 64 10 u r)
          → (r : Option ℕ) → (one_of id (matches_of (app_of_kind kind) words) ≡ None → r ≡ None) → ((t : Text) → one_of id (matches_of (app_of_kind kind) words) ≡ Some t → ReadsOne G t r)
          → value_for form (in_pairs ws) ≡ r
      number_is E G only r none some = step (given_for (45 ∷ 45 ∷ id) (in_pairs ws)) refl
        where
          by_default : (d : Option Text) → HasDefault form d → one_of id (matches_of (app_of_kind kind) words) ≡ d → form.unless_given ≡ r
          by_default None has one = has ∙ sym (none one)
          by_default (Some t) has one = has.0 ∙ sym (reads_number E G t r has.1 (omega (arith, has.2.1, (sound option).small)) only (some t one))

          step : (o : Option Given) → given_for (45 ∷ 45 ∷ id) (in_pairs ws) ≡ o → value_for form (in_pairs ws) ≡ r
          step None e = value_is None e ∙ by_default (default_text option) (sound option).default (one_is None e)
          step (Some given) e =
              let passes = found_passes (fits kind) (45 ∷ 45 ∷ id) (in_pairs ws) given fit e in
              let both = and_parts (has_option (form_of kind) given.0) (is_value_word given.1) passes.0 in
              let range = given_ranged given e in
              value_is (Some given) e ∙ sym (reads_number E G given.1 r both.1 (omega (arith, range.1, (sound option).small)) only (some given.1 (one_is (Some given) e)))

      pub number_ranged : (n : ℕ) → value_for form (in_pairs ws) ≡ Some n → IsOptionValue form n
      number_ranged n = step (given_for (45 ∷ 45 ∷ id) (in_pairs ws)) refl
        where
          by_default : (d : Option Text) → HasDefault form d → form.unless_given ≡ Some n → IsOptionValue form n
          by_default None has e = cc
          by_default (Some t) has e =
              let same : digits_value 10 t ≡ n = cc (has.0, e) in
              subst (IsOptionValue form) same has.2

          step : (o : Option Given) → given_for (45 ∷ 45 ∷ id) (in_pairs ws) ≡ o → value_for form (in_pairs ws) ≡ Some n → IsOptionValue form n
          step None e v = by_default (default_text option) (sound option).default (sym (value_is None e) ∙ v)
          step (Some given) e v =
              let same : digits_value 10 given.1 ≡ n = cc (value_is (Some given) e, v) in
              subst (IsOptionValue form) same (given_ranged given e)
