-- The options of each command as clap builds them. A command has its place in one table here, and an option in another.
use Rattle.std.proofs.Common.{◌≡◌, ◌∙◌, ◌++◌, append-nil, append_assoc, ◌<◌, ◌^◌, ◌&&◌, ◌||◌, ℕ, Bool, true, false, not, refl, sym, ap, subst, arith, true≢false, List, [], ◌∷◌, Option, Some, None}
use Rattle.std.specs.Prelude.{fold, option_and_then}
use Rattle.std.specs.List.{AllByRecursion, list_any}
use Rattle.std.specs.Str.{bytes_eq}
use Rattle.std.specs.Str.Parse.{digits_value}
use Rattle.std.proofs.lemmas.Slice.Eq.{bytes_eq-Decides}
use Rattle.clap.specs.Words.{Row, Rule, Text, is_simple, new_app, with_rule}
use Rattle.clap.specs.Lexer.{long_of}
use Rattle.clap.specs.Simple.{Shape, built, filled}
use Rattle.clap.specs.Takes.{is_given}
use Rattle.clap.specs.Walk.{arg_by_id, arg_by_long, row_text}
use Rattle.clap.specs.Faults.{is_simple_and_free}
use Rattle.clap.proofs.OnLiterals.{clap_on_literals}
use Rattle.command_words.specs.declared.kind.Kind.{Kind}
use Rattle.command_words.specs.declared.kind.Kind.TheVariants.{Grouter, Reroute, RerouteRoutes}
use Rattle.command_words.specs.declared.verb.Verb.TheVariants.{Route, Measure, Judge, Make, Trial, Eco, Climb, Guide}
use Rattle.command_words.specs.declared.option_name.OptionName.{OptionName}
use Rattle.command_words.specs.declared.option_name.OptionName.TheVariants.{Workers, Phases, Rounds, Seed, Budget, Cols, Rows, Layers, Nets, Turns, RerouteRounds, Passes}
use Rattle.command_words.specs.CommandLine.{IsOptionValue, OptionForm, has_option, is_in_range, is_value_word}
use Rattle.command_words.specs.Kinds.{form_of, id_of, option_named, option_of, options_of}
use Rattle.command_words.specs.Apps.{app_of_kind, app_with, default_text, option_rule}
use Rattle.command_words.proofs.Walks.{IsOptionWord}
use Rattle.command_words.proofs.Defaults.{HaveFineDefaults, default_found}
use Rattle.command_words.proofs.Values.{in_range}

abbrev pub shape : Kind → Shape
shape kind = (built (app_of_kind kind)).top

abbrev pub rules : Kind → List Rule
rules kind = (shape kind).rules

abbrev pub built_option : OptionName → Rule
built_option option = filled (option_rule option)

fold_rules : (word : Text) (rs more : List Rule) → fold with_rule (app_with word rs) more ≡ app_with word (rs ++ more)
fold_rules word rs [] = ap (app_with word) (sym (append-nil rs))
fold_rules word rs (r ∷ more) = fold_rules word (rs ++ r ∷ []) more ∙ ap (app_with word) (append_assoc rs (r ∷ []) more)

-- the command that is built of its arguments in turn
pub app_is : (word : Text) (rs : List Rule) → fold with_rule (new_app word) rs ≡ app_with word rs
app_is word rs = fold_rules word [] rs

-- ---- commands

abbrev pub is_given_in_range : Kind → List ℕ × List ℕ → Bool
is_given_in_range kind given = list_any (is_in_range given) (form_of kind).options

-- an option of the command is found by its id, by its word and by its name, the values of the word are those in the option's
-- range, and its default is found
abbrev pub IsOption : Kind → OptionName → Type 0
IsOption kind option =
    (arg_by_id (rules kind) (id_of option) ≡ Some (built_option option))
    × (arg_by_long (rules kind) (id_of option) ≡ Some (built_option option))
    × ((t : Text) → is_given_in_range kind ((option_of option).word, t) ≡ (in_range (option_of option).least (option_of option).most t || false))
    × (option_and_then row_text (default_found (id_of option) (rules kind)) ≡ default_text option)
    × (option_named kind (option_of option).word ≡ option)

pub record IsKnown (kind : Kind) : Type 0 where
  pub simple : is_simple (app_of_kind kind) ≡ true
  pub free : is_simple_and_free (app_of_kind kind) ≡ true
  pub none_required : (rows : List Row) → list_any (λ a. a.required && not (is_given a.id rows)) (rules kind) ≡ false
  pub has : (word : Text) → list_any (λ option. bytes_eq word (option_of option).word) (options_of kind) ≡ has_option (form_of kind) word
  pub defaults : HaveFineDefaults (rules kind)
  pub options : AllByRecursion (IsOption kind) (options_of kind)

-- the table of commands
pub known : (kind : Kind) → IsKnown kind
unfolding clap_on_literals
known (Grouter Route) = record {
  simple = refl;
  free = refl;
  none_required = λ rows. refl;
  has = λ word. refl;
  defaults = (refl, (refl, (refl, (refl, (refl, (refl, tt))))));
  options = ((refl, refl, λ t. refl, refl, refl), ((refl, refl, λ t. refl, refl, refl), ((refl, refl, λ t. refl, refl, refl), ((refl, refl, λ t. refl, refl, refl), ((refl, refl, λ t. refl, refl, refl), tt)))));
}
known (Grouter Measure) = record { simple = refl; free = refl; none_required = λ rows. refl; has = λ word. refl; defaults = (refl, tt); options = tt }
known (Grouter Judge) = record { simple = refl; free = refl; none_required = λ rows. refl; has = λ word. refl; defaults = (refl, tt); options = tt }
known (Grouter Eco) = record { simple = refl; free = refl; none_required = λ rows. refl; has = λ word. refl; defaults = (refl, tt); options = tt }
known (Grouter Guide) = record { simple = refl; free = refl; none_required = λ rows. refl; has = λ word. refl; defaults = (refl, tt); options = tt }
known (Grouter Make) = record {
  simple = refl;
  free = refl;
  none_required = λ rows. refl;
  has = λ word. refl;
  defaults = (refl, (refl, (refl, (refl, (refl, (refl, tt))))));
  options = ((refl, refl, λ t. refl, refl, refl), ((refl, refl, λ t. refl, refl, refl), ((refl, refl, λ t. refl, refl, refl), ((refl, refl, λ t. refl, refl, refl), ((refl, refl, λ t. refl, refl, refl), tt)))));
}
known (Grouter Climb) = record {
  simple = refl;
  free = refl;
  none_required = λ rows. refl;
  has = λ word. refl;
  defaults = (refl, (refl, tt));
  options = ((refl, refl, λ t. refl, refl, refl), tt);
}
known (Grouter Trial) = record {
  simple = refl;
  free = refl;
  none_required = λ rows. refl;
  has = λ word. refl;
  defaults = (refl, (refl, (refl, (refl, (refl, tt)))));
  options = ((refl, refl, λ t. refl, refl, refl), ((refl, refl, λ t. refl, refl, refl), ((refl, refl, λ t. refl, refl, refl), ((refl, refl, λ t. refl, refl, refl), tt))));
}
known Reroute = record {
  simple = refl;
  free = refl;
  none_required = λ rows. refl;
  has = λ word. refl;
  defaults = (refl, (refl, (refl, (refl, (refl, tt)))));
  options = ((refl, refl, λ t. refl, refl, refl), ((refl, refl, λ t. refl, refl, refl), ((refl, refl, λ t. refl, refl, refl), ((refl, refl, λ t. refl, refl, refl), tt))));
}
known RerouteRoutes = record {
  simple = refl;
  free = refl;
  none_required = λ rows. refl;
  has = λ word. refl;
  defaults = (refl, (refl, (refl, (refl, (refl, tt)))));
  options = ((refl, refl, λ t. refl, refl, refl), ((refl, refl, λ t. refl, refl, refl), ((refl, refl, λ t. refl, refl, refl), ((refl, refl, λ t. refl, refl, refl), tt))));
}

pub has_option_is : (kind : Kind) (word : Text) → list_any (λ option. bytes_eq word (option_of option).word) (options_of kind) ≡ has_option (form_of kind) word
has_option_is kind word = (known kind).has word

among : (kind : Kind) (P : Text → Type 0) → ((option : OptionName) → IsOption kind option → P (option_of option).word) → (word : Text)
    → (options : List OptionName) → AllByRecursion (IsOption kind) options → list_any (λ option. bytes_eq word (option_of option).word) options ≡ true → P word
among kind P each word [] known is = absurd (true≢false (sym is))
among kind P each word (option ∷ options) known is = step (bytes_eq word (option_of option).word) refl is (among kind P each word options known.1)
  where
    step : (b : Bool) → bytes_eq word (option_of option).word ≡ b → (b || list_any (λ o. bytes_eq word (option_of o).word) options) ≡ true
        → (list_any (λ o. bytes_eq word (option_of o).word) options ≡ true → P word) → P word
    step true e h more = subst P (sym ((bytes_eq-Decides word (option_of option).word).0 e)) (each option known.0)
    step false e h more = more h

-- what holds of the word of each of the command's options
pub of_option : (kind : Kind) (P : Text → Type 0) → ((option : OptionName) → IsOption kind option → P (option_of option).word)
    → (word : Text) → has_option (form_of kind) word ≡ true → P word
of_option kind P each word has = among kind P each word (options_of kind) (known kind).options ((known kind).has word ∙ has)

-- ---- options, whatever the command

-- the default has its text, and is a value of the option
abbrev pub HasDefault : OptionForm → Option Text → Type 0
HasDefault form None = form.unless_given ≡ None
HasDefault form (Some t) = (form.unless_given ≡ Some (digits_value 10 t)) × (is_value_word t ≡ true) × IsOptionValue form (digits_value 10 t)

pub record IsSound (option : OptionName) : Type 0 where
  pub word : (option_of option).word ≡ 45 ∷ 45 ∷ id_of option
  pub long : long_of (option_of option).word ≡ Some (id_of option, None)
  pub no_dashes : bytes_eq (option_of option).word (45 ∷ 45 ∷ []) ≡ false
  pub small : (option_of option).most < 2 ^ 64
  pub default : HasDefault (option_of option) (default_text option)

-- the table of options
pub sound : (option : OptionName) → IsSound option
unfolding clap_on_literals
sound Workers = record { word = refl; long = refl; no_dashes = refl; small = omega arith; default = (refl, refl, (omega arith, omega arith)) }
sound Phases = record { word = refl; long = refl; no_dashes = refl; small = omega arith; default = (refl, refl, (omega arith, omega arith)) }
sound Rounds = record { word = refl; long = refl; no_dashes = refl; small = omega arith; default = (refl, refl, (omega arith, omega arith)) }
sound Seed = record { word = refl; long = refl; no_dashes = refl; small = omega arith; default = (refl, refl, (omega arith, omega arith)) }
sound Budget = record { word = refl; long = refl; no_dashes = refl; small = omega arith; default = refl }
sound Cols = record { word = refl; long = refl; no_dashes = refl; small = omega arith; default = (refl, refl, (omega arith, omega arith)) }
sound Rows = record { word = refl; long = refl; no_dashes = refl; small = omega arith; default = (refl, refl, (omega arith, omega arith)) }
sound Layers = record { word = refl; long = refl; no_dashes = refl; small = omega arith; default = (refl, refl, (omega arith, omega arith)) }
sound Nets = record { word = refl; long = refl; no_dashes = refl; small = omega arith; default = (refl, refl, (omega arith, omega arith)) }
sound Turns = record { word = refl; long = refl; no_dashes = refl; small = omega arith; default = (refl, refl, (omega arith, omega arith)) }
sound RerouteRounds = record { word = refl; long = refl; no_dashes = refl; small = omega arith; default = (refl, refl, (omega arith, omega arith)) }
sound Passes = record { word = refl; long = refl; no_dashes = refl; small = omega arith; default = (refl, refl, (omega arith, omega arith)) }

-- the rule of an option's word
abbrev pub rule_for : Kind → Text → Rule
rule_for kind word = built_option (option_named kind word)

pub rule_is : (kind : Kind) (option : OptionName) → IsOption kind option → rule_for kind (option_of option).word ≡ built_option option
rule_is kind option is = ap built_option is.4

pub known_option : (kind : Kind) (option : OptionName) → has_option (form_of kind) (option_of option).word ≡ true
    → option_named kind (option_of option).word ≡ option → IsOption kind option
known_option kind option has named = subst (IsOption kind) named
    (of_option kind (λ word. IsOption kind (option_named kind word)) (λ o is. subst (IsOption kind) (sym is.4) is) (option_of option).word has)

pub option_word : (kind : Kind) (word : Text) → has_option (form_of kind) word ≡ true → IsOptionWord (rules kind) word (rule_for kind word)
option_word kind = of_option kind (λ word. IsOptionWord (rules kind) word (rule_for kind word))
    (λ option is. subst (IsOptionWord (rules kind) (option_of option).word) (sym (rule_is kind option is)) (record {
      is_long = (sound option).long;
      no_dashes = (sound option).no_dashes;
      by_long = is.1;
      single = record { by_id = is.0; one = refl; set = refl };
    }))
