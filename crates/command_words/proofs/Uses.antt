-- What clap finds of options with their values, and what it refuses of them.
use Rattle.std.proofs.Common.{◌≡◌, ◌∙◌, ◌++◌, ◌&&◌, ◌||◌, ℕ, Bool, eqb, true, false, not, refl, sym, ap, true≢false, append-nil, List, [], ◌∷◌, map, Some, None}
use Rattle.std.proofs.lemmas.Bool.{and_parts, or_parts}
use Rattle.std.specs.Prelude.{⊤, cond, fold, unwrap_or}
use Rattle.std.specs.Option.{option_map_or}
use Rattle.clap.specs.declared.error.kind.ErrorKind.TheVariants as kind
use Rattle.std.specs.List.{list_any}
use Rattle.std.specs.Str.{bytes_eq}
use Rattle.clap.specs.Words.{Row, Rule, Text}
use Rattle.clap.specs.Simple.{Shape}
use Rattle.clap.specs.Walk.{Held, action_of, at_row, has_row, idle, option, reading_by, settled, settled_rows, used_as, used_by_id, walked, with_values, more_values}
use Rattle.clap.specs.Facts.{unwrap_or_range}
use Rattle.clap.specs.Faults.{action_fault, settle_fault, turn_fault, use_fault, values_fault, walk_fault}
use Rattle.clap.specs.Kinds.{Kinds, or_else, range_kinds}
use Rattle.clap.specs.declared.builder.action.ArgAction.TheVariants.{Set}
use Rattle.clap.specs.declared.parser.matches.ValueSource.TheVariants.{CommandLine}
use Rattle.command_words.specs.CommandLine.{all_differ}
use Rattle.command_words.proofs.Walks.{IsOptionWord, IsSingle, at, option_fault_is, option_step, or_else-nil, value_fault, value_step}

-- an argument and the value that it has
abbrev pub Use : Type 0
Use = Rule × Text

abbrev pub HasNoHyphen : Text → Type 0
HasNoHyphen [] = ⊥
HasNoHyphen (x ∷ xs) = eqb x 45 ≡ false

-- the words are these options with their values
abbrev pub AreUses : List Rule → List Text → List Use → Type 0
AreUses c [] [] = ⊤
AreUses c (word ∷ text ∷ words) (u ∷ us) = IsOptionWord c word u.0 × (text ≡ u.1) × HasNoHyphen u.1 × AreUses c words us
AreUses c _ _ = ⊥

-- what is held once the option is pending with its value
abbrev pub with_use : List Rule → Use → Held → Held
with_use c u h = record (settled c h) { pending = Some (u.0.id, u.1 ∷ []) }

abbrev pub after_uses : List Rule → List Use → Held → Held
after_uses c [] h = h
after_uses c (u ∷ us) h = after_uses c us (with_use c u h)

abbrev pub faults_of : List Rule → Bool → List Use → Held → Kinds
faults_of c again [] h = []
faults_of c again (u ∷ us) h = or_else (settle_fault c again h) (faults_of c again us (with_use c u h))

use_step : (c : List Rule) (p : ℕ) (word text : Text) (u : Use) (h : Held) → IsOptionWord c word u.0 → text ≡ u.1 → HasNoHyphen u.1
    → walked c [] (walked c [] (at p idle h) word) text ≡ at p idle (with_use c u h)
use_step c p word text (a, []) h is e bad = absurd bad
use_step c p word text (a, d ∷ ds) h is e apart =
    ap (λ w. walked c [] w text) (option_step c word a is p h) ∙ ap (walked c [] (at p (option a.id) (record (settled c h) { pending = Some (a.id, []) }))) e
    ∙ value_step c a is.single p (settled c h) d ds apart

pub uses_walk : (c : List Rule) (p : ℕ) (words : List Text) (us : List Use) (h : Held) → AreUses c words us
    → fold (walked c []) (at p idle h) words ≡ at p idle (after_uses c us h)
uses_walk c p [] [] h are = refl
uses_walk c p [] (u ∷ us) h are = absurd are
uses_walk c p (word ∷ []) [] h are = absurd are
uses_walk c p (word ∷ []) (u ∷ us) h are = absurd are
uses_walk c p (word ∷ text ∷ words) [] h are = absurd are
uses_walk c p (word ∷ text ∷ words) (u ∷ us) h are =
    ap (λ w. fold (walked c []) w words) (use_step c p word text u h are.0 are.1 are.2) ∙ uses_walk c p words us (with_use c u h) are.3

pub or_else_assoc : (a b k : Kinds) → or_else (or_else a b) k ≡ or_else a (or_else b k)
or_else_assoc [] b k = refl
or_else_assoc (x ∷ a) b k = refl

use_fault_is : (s : Shape) (p : ℕ) (word text : Text) (u : Use) (h : Held) (rest : List Text) → IsOptionWord s.rules word u.0 → text ≡ u.1 → HasNoHyphen u.1
    → walk_fault s [] (at p idle h) (word ∷ text ∷ rest) ≡ or_else (settle_fault s.rules s.args_override_self h) (walk_fault s [] (at p idle (with_use s.rules u h)) rest)
unfolding walk_fault
use_fault_is s p word text (a, []) h rest is e bad = absurd bad
use_fault_is s p word text (a, d ∷ ds) h rest is e apart =
    ap (λ k. or_else k (or_else (turn_fault s [] (walked s.rules [] (at p idle h) word) text)
    (walk_fault s [] (walked s.rules [] (walked s.rules [] (at p idle h) word) text) rest))) (option_fault_is s word a is p h)
    ∙ ap (λ k. or_else (settle_fault s.rules s.args_override_self h) (or_else k (walk_fault s [] (walked s.rules [] (walked s.rules [] (at p idle h) word) text) rest)))
    (ap (λ w. turn_fault s [] w text) (option_step s.rules word a is p h) ∙ ap (turn_fault s [] (at p (option a.id) (record (settled s.rules h) { pending = Some (a.id, []) }))) e
    ∙ value_fault d ds apart s p a.id (record (settled s.rules h) { pending = Some (a.id, []) }))
    ∙ ap (λ w. or_else (settle_fault s.rules s.args_override_self h) (walk_fault s [] w rest)) (use_step s.rules p word text (a, d ∷ ds) h is e apart)

pub uses_fault : (s : Shape) (p : ℕ) (words : List Text) (us : List Use) (h : Held) → AreUses s.rules words us
    → walk_fault s [] (at p idle h) words ≡ faults_of s.rules s.args_override_self us h
unfolding walk_fault
uses_fault s p [] [] h are = refl
uses_fault s p [] (u ∷ us) h are = absurd are
uses_fault s p (word ∷ []) [] h are = absurd are
uses_fault s p (word ∷ []) (u ∷ us) h are = absurd are
uses_fault s p (word ∷ text ∷ words) [] h are = absurd are
uses_fault s p (word ∷ text ∷ words) (u ∷ us) h are =
    use_fault_is s p word text u h words are.0 are.1 are.2
    ∙ ap (or_else (settle_fault s.rules s.args_override_self h)) (uses_fault s p words us (with_use s.rules u h) are.3)

-- ---- rows

abbrev pub row_for : Use → Row
row_for u = record { id = u.0.id; values = u.1 ∷ []; count = None; source = Some CommandLine; reading = reading_by u.0 }

-- the argument is pending with its value, behind these rows
abbrev pub pending_at : List Row → Use → Held
pending_at rows u = record { rows = rows; pending = Some (u.0.id, u.1 ∷ []); skip = 0 }

pub new_row : (id : Text) (change : Row → List Row) (missing rows : List Row) → has_row id rows ≡ false → at_row id change missing rows ≡ rows ++ missing
new_row id change missing [] none = refl
new_row id change missing (r ∷ rows) none = step (bytes_eq r.id id) refl none (new_row id change missing rows)
  where
    step : (b : Bool) → bytes_eq r.id id ≡ b → (b || has_row id rows) ≡ false → (has_row id rows ≡ false → at_row id change missing rows ≡ rows ++ missing)
        → at_row id change missing (r ∷ rows) ≡ r ∷ rows ++ missing
    step true e t more = absurd (true≢false t)
    step false e t more = rw e (ap (λ rs. r ∷ rs) (more t))

module _ (c : List Rule) (u : Use) (is : IsSingle c u.0) (rows : List Row) (none : has_row u.0.id rows ≡ false) where
  pub settled_are : settled_rows c (Some (u.0.id, u.1 ∷ [])) rows ≡ rows ++ row_for u ∷ []
  settled_are = ap (λ f. used_by_id f (u.1 ∷ []) rows) is.by_id
      ∙ ap (λ x. used_as (unwrap_or x Set) u.0.id (reading_by u.0) (u.1 ∷ []) rows) is.set
      ∙ ap (with_values u.0.id (reading_by u.0) CommandLine (u.1 ∷ [])) (new_row u.0.id (λ _. []) [] rows none ∙ append-nil rows)
      ∙ new_row u.0.id (more_values CommandLine (u.1 ∷ [])) (row_for u ∷ []) rows none

  pub settle_fault_is : (again : Bool) → settle_fault c again (pending_at rows u) ≡ values_fault u.0 (u.1 ∷ [])
  settle_fault_is again = ap (λ f. option_map_or (λ a. use_fault again a (u.1 ∷ []) rows) f []) is.by_id
      ∙ ap (λ r. or_else (range_kinds (unwrap_or_range r).start_inclusive (unwrap_or_range r).end_inclusive 1) (action_fault (action_of u.0) again u.0 (u.1 ∷ []) rows)) is.one
      ∙ ap (λ x. action_fault (unwrap_or x Set) again u.0 (u.1 ∷ []) rows) is.set
      ∙ ap (λ b. or_else (cond (b && not again) (kind.ArgumentConflict ∷ []) []) (values_fault u.0 (u.1 ∷ []))) none

-- ---- all uses

abbrev pub ids_of : List Use → List Text
ids_of us = map (λ u. u.0.id) us

abbrev pub row_ids : List Row → List Text
row_ids rows = map (λ r. r.id) rows

abbrev pub all_faults : List Use → Kinds
all_faults [] = []
all_faults (u ∷ us) = or_else (values_fault u.0 (u.1 ∷ [])) (all_faults us)

abbrev pub AreSingle : List Rule → List Use → Type 0
AreSingle c [] = ⊤
AreSingle c (u ∷ us) = IsSingle c u.0 × AreSingle c us

pub not_true : (a : Bool) → not a ≡ true → a ≡ false
not_true true e = sym e
not_true false e = refl

among : (xs later : List Text) (id x : Text) → list_any (bytes_eq x) (xs ++ id ∷ later) ≡ false → bytes_eq x id ≡ false
among [] later id x none = (or_parts (bytes_eq x id) _ none).0
among (y ∷ xs) later id x none = among xs later id x (or_parts (bytes_eq x y) _ none).1

-- an id that differs from those of the rows before it has no row
pub fresh : (rows : List Row) (id : Text) (later : List Text) → all_differ (row_ids rows ++ id ∷ later) ≡ true → has_row id rows ≡ false
fresh [] id later differ = refl
fresh (r ∷ rows) id later differ =
    let parts = and_parts _ _ differ in
    let first : bytes_eq r.id id ≡ false = among (row_ids rows) later id r.id (not_true _ parts.0) in
    rw first (fresh rows id later parts.1)

next_ids : (rows : List Row) (u : Use) (later : List Text) → row_ids (rows ++ row_for u ∷ []) ++ later ≡ row_ids rows ++ u.0.id ∷ later
next_ids [] u later = refl
next_ids (r ∷ rows) u later = ap (λ ids. r.id ∷ ids) (next_ids rows u later)

next_rows : (rows : List Row) (u : Use) (later : List Row) → (rows ++ row_for u ∷ []) ++ later ≡ rows ++ row_for u ∷ later
next_rows [] u later = refl
next_rows (r ∷ rows) u later = ap (λ rs. r ∷ rs) (next_rows rows u later)

then_pending : (c : List Rule) (rows : List Row) (u next : Use) → IsSingle c u.0 → has_row u.0.id rows ≡ false
    → with_use c next (pending_at rows u) ≡ pending_at (rows ++ row_for u ∷ []) next
then_pending c rows u next is none = ap (λ rs. pending_at rs next) (settled_are c u is rows none)

-- the rows of all uses stand behind one another, in the order of the words
pub rows_after_uses : (c : List Rule) (us : List Use) (u : Use) (rows : List Row) → AreSingle c (u ∷ us) → all_differ (row_ids rows ++ ids_of (u ∷ us)) ≡ true
    → (settled c (after_uses c us (pending_at rows u))).rows ≡ rows ++ map row_for (u ∷ us)
rows_after_uses c [] u rows are differ = settled_are c u are.0 rows (fresh rows u.0.id [] differ)
rows_after_uses c (next ∷ us) u rows are differ =
    ap (λ h. (settled c (after_uses c us h)).rows) (then_pending c rows u next are.0 (fresh rows u.0.id (ids_of (next ∷ us)) differ))
    ∙ rows_after_uses c us next (rows ++ row_for u ∷ []) are.1 (ap all_differ (next_ids rows u (ids_of (next ∷ us))) ∙ differ)
    ∙ next_rows rows u (map row_for (next ∷ us))

-- and what is refused is a value
pub all_faults_are : (c : List Rule) (again : Bool) (us : List Use) (u : Use) (rows : List Row) → AreSingle c (u ∷ us) → all_differ (row_ids rows ++ ids_of (u ∷ us)) ≡ true
    → or_else (faults_of c again us (pending_at rows u)) (settle_fault c again (after_uses c us (pending_at rows u))) ≡ all_faults (u ∷ us)
all_faults_are c again [] u rows are differ = settle_fault_is c u are.0 rows (fresh rows u.0.id [] differ) again ∙ sym (or_else-nil (values_fault u.0 (u.1 ∷ [])))
all_faults_are c again (next ∷ us) u rows are differ =
    or_else_assoc (settle_fault c again (pending_at rows u)) (faults_of c again us (with_use c next (pending_at rows u))) _
    ∙ ap (λ k. or_else k (or_else (faults_of c again us (with_use c next (pending_at rows u))) (settle_fault c again (after_uses c us (with_use c next (pending_at rows u))))))
    (settle_fault_is c u are.0 rows (fresh rows u.0.id (ids_of (next ∷ us)) differ) again)
    ∙ ap (or_else (values_fault u.0 (u.1 ∷ [])))
    (ap (λ h. or_else (faults_of c again us h) (settle_fault c again (after_uses c us h))) (then_pending c rows u next are.0 (fresh rows u.0.id (ids_of (next ∷ us)) differ))
    ∙ all_faults_are c again us next (rows ++ row_for u ∷ []) are.1 (ap all_differ (next_ids rows u (ids_of (next ∷ us))) ∙ differ))
