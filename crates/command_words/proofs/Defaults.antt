-- What defaults add to the rows of a walk.
use Rattle.std.proofs.Common.{◌≡◌, ◌∙◌, ◌++◌, ◌||◌, Bool, true, false, refl, sym, ap, true≢false, append-nil, List, [], ◌∷◌, Option, Some, None}
use Rattle.std.specs.Prelude.{⊤, cond, fold}
use Rattle.std.specs.List.{find}
use Rattle.std.proofs.lemmas.List.Folds.{list_any-append}
use Rattle.std.specs.Str.{bytes_eq}
use Rattle.std.proofs.lemmas.Slice.Eq.{bytes_eq-Decides}
use Rattle.clap.specs.Words.{Row, Rule, Text}
use Rattle.clap.specs.Walk.{default_rows, has_row, is_empty, more_values, reading_by, with_default}
use Rattle.clap.specs.Faults.{default_fault, defaults_fault, given_default_fault}
use Rattle.clap.specs.Kinds.{or_else}
use Rattle.clap.specs.declared.parser.matches.ValueSource.TheVariants.{DefaultValue}
use Rattle.command_words.proofs.Uses.{new_row}

abbrev pub row_at : Text → List Row → Option Row
row_at id rows = find (λ r. bytes_eq r.id id) rows

abbrev pub default_row : Rule → List Text → Row
default_row a values = record { id = a.id; values = values; count = None; source = Some DefaultValue; reading = reading_by a }

-- what a default adds
abbrev pub defaults_added : Rule → List Text → List Row
defaults_added a [] = []
defaults_added a (v ∷ vs) = default_row a (v ∷ vs) ∷ []

added : (a : Rule) (values : List Text) (rows : List Row) → has_row a.id rows ≡ false → default_rows a.id (reading_by a) values rows ≡ rows ++ defaults_added a values
added a [] rows none = sym (append-nil rows)
added a (v ∷ vs) rows none = new_row a.id (more_values DefaultValue (v ∷ vs)) (default_row a (v ∷ vs) ∷ []) rows none

abbrev default_of : Rule → List Row → List Row
default_of a rows = cond (has_row a.id rows) [] (defaults_added a a.defaults)

with_default_is : (rows : List Row) (a : Rule) → with_default rows a ≡ rows ++ default_of a rows
with_default_is rows a = step (has_row a.id rows) refl
  where
    step : (b : Bool) → has_row a.id rows ≡ b → with_default rows a ≡ rows ++ default_of a rows
    step true e = rw e (sym (append-nil rows))
    step false e = rw e (added a a.defaults rows e)

front_found : (rows more : List Row) (id : Text) → has_row id rows ≡ true → row_at id (rows ++ more) ≡ row_at id rows
front_found [] more id has = absurd (true≢false (sym has))
front_found (r ∷ rows) more id has = step (bytes_eq r.id id) refl has (front_found rows more id)
  where
    step : (b : Bool) → bytes_eq r.id id ≡ b → (b || has_row id rows) ≡ true → (has_row id rows ≡ true → row_at id (rows ++ more) ≡ row_at id rows)
        → row_at id (r ∷ rows ++ more) ≡ row_at id (r ∷ rows)
    step true e t next = rw e refl
    step false e t next = rw e (next t)

-- behind rows without the id
pub back_found : (rows more : List Row) (id : Text) → has_row id rows ≡ false → row_at id (rows ++ more) ≡ row_at id more
back_found [] more id none = refl
back_found (r ∷ rows) more id none = step (bytes_eq r.id id) refl none (back_found rows more id)
  where
    step : (b : Bool) → bytes_eq r.id id ≡ b → (b || has_row id rows) ≡ false → (has_row id rows ≡ false → row_at id (rows ++ more) ≡ row_at id more)
        → row_at id (r ∷ rows ++ more) ≡ row_at id more
    step true e t next = absurd (true≢false t)
    step false e t next = rw e (next t)

-- a row that is there stays the one that is found
pub found_stays : (rules : List Rule) (rows : List Row) (id : Text) → has_row id rows ≡ true → row_at id (fold with_default rows rules) ≡ row_at id rows
found_stays [] rows id has = refl
found_stays (a ∷ rules) rows id has =
    found_stays rules (with_default rows a) id (ap (has_row id) (with_default_is rows a) ∙ list_any-append (λ r. bytes_eq r.id id) rows (default_of a rows) ∙ ap (λ b. b || has_row id (default_of a rows)) has)
    ∙ ap (row_at id) (with_default_is rows a) ∙ front_found rows (default_of a rows) id has

abbrev pub default_or : Rule → List Text → Option Row → Option Row
default_or a [] next = next
default_or a (v ∷ vs) next = Some (default_row a (v ∷ vs))

-- the default of the first argument of this id that has one
abbrev pub default_found : Text → List Rule → Option Row
default_found id [] = None
default_found id (a ∷ rules) = cond (bytes_eq a.id id) (default_or a a.defaults (default_found id rules)) (default_found id rules)

no_row_at : (rows : List Row) (id : Text) → has_row id rows ≡ false → row_at id rows ≡ None
no_row_at rows id none = ap (row_at id) (sym (append-nil rows)) ∙ back_found rows [] id none

-- an argument of another id adds no row of this one
other_default : (a : Rule) (rows : List Row) (id : Text) → bytes_eq a.id id ≡ false → has_row id (default_of a rows) ≡ false
other_default a rows id other = step (has_row a.id rows) a.defaults
  where
    step : (b : Bool) (values : List Text) → has_row id (cond b [] (defaults_added a values)) ≡ false
    step true values = refl
    step false [] = refl
    step false (v ∷ vs) = ap (λ b. b || false) other

after_default : (rows : List Row) (a : Rule) (id : Text) → has_row id rows ≡ false → has_row id (with_default rows a) ≡ has_row id (default_of a rows)
after_default rows a id none = ap (has_row id) (with_default_is rows a) ∙ list_any-append (λ r. bytes_eq r.id id) rows (default_of a rows)
    ∙ ap (λ b. b || has_row id (default_of a rows)) none

-- and where no row is there, the default is found
pub default_is_found : (rules : List Rule) (rows : List Row) (id : Text) → has_row id rows ≡ false → row_at id (fold with_default rows rules) ≡ default_found id rules
default_is_found [] rows id none = no_row_at rows id none
default_is_found (a ∷ rules) rows id none =
    step (bytes_eq a.id id) refl (default_is_found rules (with_default rows a) id) (found_stays rules (with_default rows a) id)
  where
    same : bytes_eq a.id id ≡ true → default_of a rows ≡ defaults_added a a.defaults
    same e = ap (λ b. cond b [] (defaults_added a a.defaults)) (ap (λ t. has_row t rows) ((bytes_eq-Decides a.id id).0 e) ∙ none)

    given : (values : List Text) → bytes_eq a.id id ≡ true → default_of a rows ≡ defaults_added a values
        → (has_row id (with_default rows a) ≡ false → row_at id (fold with_default (with_default rows a) rules) ≡ default_found id rules)
        → (has_row id (with_default rows a) ≡ true → row_at id (fold with_default (with_default rows a) rules) ≡ row_at id (with_default rows a))
        → row_at id (fold with_default (with_default rows a) rules) ≡ default_or a values (default_found id rules)
    given [] e is absent present = absent (after_default rows a id none ∙ ap (has_row id) is)
    given (v ∷ vs) e is absent present =
        let hit : row_at id (defaults_added a (v ∷ vs)) ≡ Some (default_row a (v ∷ vs)) = rw e refl in
        let has : has_row id (defaults_added a (v ∷ vs)) ≡ true = rw e refl in
        present (after_default rows a id none ∙ ap (has_row id) is ∙ has)
        ∙ ap (row_at id) (with_default_is rows a) ∙ back_found rows (default_of a rows) id none ∙ ap (row_at id) is ∙ hit

    step : (b : Bool) → bytes_eq a.id id ≡ b
        → (has_row id (with_default rows a) ≡ false → row_at id (fold with_default (with_default rows a) rules) ≡ default_found id rules)
        → (has_row id (with_default rows a) ≡ true → row_at id (fold with_default (with_default rows a) rules) ≡ row_at id (with_default rows a))
        → row_at id (fold with_default (with_default rows a) rules) ≡ default_found id (a ∷ rules)
    step true e absent present = rw e (given a.defaults e (same e) absent present)
    step false e absent present = rw e (absent (after_default rows a id none ∙ other_default a rows id e))

-- each default passes its own parser
abbrev pub HaveFineDefaults : List Rule → Type 0
HaveFineDefaults [] = ⊤
HaveFineDefaults (a ∷ rules) = (cond (is_empty a.defaults) [] (given_default_fault a a.defaults) ≡ []) × HaveFineDefaults rules

default_fault_is : (rows : List Row) (a : Rule) → cond (is_empty a.defaults) [] (given_default_fault a a.defaults) ≡ [] → default_fault rows a ≡ []
default_fault_is rows a fine = step (has_row a.id rows)
  where
    step : (b : Bool) → cond (b || is_empty a.defaults) [] (given_default_fault a a.defaults) ≡ []
    step true = refl
    step false = fine

pub no_default_fault : (rules : List Rule) (rows : List Row) → HaveFineDefaults rules → defaults_fault rows rules ≡ []
unfolding defaults_fault
no_default_fault [] rows fine = refl
no_default_fault (a ∷ rules) rows fine =
    ap (λ k. or_else k (defaults_fault (with_default rows a) rules)) (default_fault_is rows a fine.0) ∙ no_default_fault rules (with_default rows a) fine.1
