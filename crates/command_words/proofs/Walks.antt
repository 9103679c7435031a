-- What clap's walk makes of options with their values, of which only the shape is known.
use Rattle.std.proofs.Common.{◌≡◌, ◌∙◌, ◌==◌, ℕ, eqb, true, false, refl, ap, List, [], ◌∷◌, Some, None, not}
use Rattle.std.specs.Prelude.{nat_lt, option_and_then, cond}
use Rattle.std.specs.Option.{option_map_or}
use Rattle.std.specs.Str.{bytes_eq}
use Rattle.std.proofs.lemmas.Slice.Eq.{bytes_eq-Decides}
use Rattle.clap.specs.Words.{Rule, Text}
use Rattle.clap.specs.Simple.{Shape}
use Rattle.clap.specs.Walk.{Held, Waiting, Walk, after_flag, after_step, arg_by_id, arg_by_long, flag_met, idle, long_met, long_or_other, most_values, next, option, option_met, option_word, plain_word, settled, short_or_plain, takes_values, trailing, walked, word_met}
use Rattle.clap.specs.Lexer.{long_of, long_of_rest, short_of, short_of_rest, strip_byte}
use Rattle.clap.specs.Facts.{unwrap_or_range}
use Rattle.clap.specs.Faults.{flag_word_fault, long_fault, settle_fault, step_fault, turn_fault, word_fault, bundle_fault, option_fault, react_fault}
use Rattle.clap.specs.Kinds.{Kinds, or_else}
use Rattle.clap.specs.declared.builder.action.ArgAction.TheVariants.{Set}

-- an argument that is found by its id and takes one value
pub record IsSingle (c : List Rule) (a : Rule) : Type 0 where
  pub by_id : arg_by_id c a.id ≡ Some a
  pub one : a.range ≡ Some (record { start_inclusive = 1; end_inclusive = 1 })
  pub set : a.action ≡ Some Set

-- an option of one value that the word names
pub record IsOptionWord (c : List Rule) (word : Text) (a : Rule) : Type 0 where
  pub is_long : long_of word ≡ Some (a.id, None)
  pub no_dashes : bytes_eq word (45 ∷ 45 ∷ []) ≡ false
  pub by_long : arg_by_long c a.id ≡ Some a
  pub single : IsSingle c a

abbrev pub at : ℕ → Waiting → Held → Walk
at p waiting h = record { held = h; waiting = waiting; position = p; is_trailing = false; stopped = None }

-- a word that begins with no hyphen is no flag
module _ (x : ℕ) (xs : Text) (e : eqb x 45 ≡ false) where
  strip_is : strip_byte 45 (x ∷ xs) ≡ None
  strip_is = ap (λ b. cond b (Some xs) None) e

  long_is : long_of (x ∷ xs) ≡ None
  long_is = ap (λ s. option_and_then long_of_rest (option_and_then (strip_byte 45) s)) strip_is

  short_is : short_of (x ∷ xs) ≡ None
  short_is = ap (option_and_then short_of_rest) strip_is

  dashes_is : bytes_eq (x ∷ xs) (45 ∷ 45 ∷ []) ≡ false
  dashes_is = rw e refl

  pub value_met : (c : List Rule) (p : ℕ) (id : Text) (h : Held) → word_met c [] false (option id) p (x ∷ xs) h ≡ plain_word c (option id) (x ∷ xs) h
  value_met c p id h = ap (λ b. cond b (h, trailing p) (long_or_other c (option id) (x ∷ xs) (long_of (x ∷ xs)) h)) dashes_is
      ∙ ap (λ o. long_or_other c (option id) (x ∷ xs) o h) long_is ∙ ap (λ o. short_or_plain c (option id) (x ∷ xs) o h) short_is

  -- and is no fault by itself
  no_flag_fault : (s : Shape) (h : Held) → cond (bytes_eq (x ∷ xs) (45 ∷ 45 ∷ [])) [] (flag_word_fault s.rules s.args_override_self (long_of (x ∷ xs)) (x ∷ xs) h) ≡ []
  no_flag_fault s h = ap (λ b. cond b [] (flag_word_fault s.rules s.args_override_self (long_of (x ∷ xs)) (x ∷ xs) h)) dashes_is
      ∙ ap (λ o. flag_word_fault s.rules s.args_override_self o (x ∷ xs) h) long_is
      ∙ ap (λ o. option_map_or (λ flags. bundle_fault s.rules s.args_override_self flags h) o []) short_is

  pub value_fault : (s : Shape) (p : ℕ) (id : Text) (h : Held) → turn_fault s [] (at p (option id) h) (x ∷ xs) ≡ []
  value_fault s p id h = ap (λ k. or_else k (step_fault s p (word_met s.rules [] false (option id) p (x ∷ xs) h).0 (word_met s.rules [] false (option id) p (x ∷ xs) h).1)) (no_flag_fault s h)
      ∙ ap (λ m. step_fault s p m.0 m.1) (value_met s.rules p id h)

takes_one : (c : List Rule) (a : Rule) → IsSingle c a → takes_values a ≡ true
takes_one c a is = ap (λ r. not ((unwrap_or_range r).end_inclusive == 0)) is.one

pub or_else-nil : (k : Kinds) → or_else k [] ≡ k
or_else-nil [] = refl
or_else-nil (k ∷ ks) = refl

-- the word of an option: what was pending is used, and the option waits for its value
module _ (c : List Rule) (word : Text) (a : Rule) (is : IsOptionWord c word a) (p : ℕ) (h : Held) where
  option_met_is : word_met c [] false idle p word h ≡ (record (settled c h) { pending = Some (a.id, []) }, next (option a.id))
  option_met_is = ap (λ b. cond b (h, trailing p) (long_or_other c idle word (long_of word) h)) is.no_dashes
      ∙ ap (λ o. long_or_other c idle word o h) is.is_long
      ∙ ap (λ f. after_flag c idle word (long_met c f None h).0 (long_met c f None h).1) is.by_long
      ∙ ap (λ b. after_flag c idle word (cond b (option_met c a None h) (flag_met c a None h)).0 (cond b (option_met c a None h) (flag_met c a None h)).1) (takes_one c a is.single)

  pub option_step : walked c [] (at p idle h) word ≡ at p (option a.id) (record (settled c h) { pending = Some (a.id, []) })
  unfolding walked
  option_step = ap (λ m. after_step c word (at p idle h) m.0 m.1) option_met_is

-- the value of an option: it is pending now
module _ (c : List Rule) (a : Rule) (is : IsSingle c a) (p : ℕ) (h : Held) (d : ℕ) (ds : Text) (e : eqb d 45 ≡ false) where
  abbrev waits : Held
  waits = record h { pending = Some (a.id, []) }

  abbrev holds : Held
  holds = record h { pending = Some (a.id, (d ∷ ds) ∷ []) }

  same : bytes_eq a.id a.id ≡ true
  same = (bytes_eq-Decides a.id a.id).1 refl

  full : cond (nat_lt (cond (bytes_eq a.id a.id) 1 0) (most_values a)) (option a.id) idle ≡ idle
  full = ap (λ b. cond (nat_lt (cond b 1 0) (most_values a)) (option a.id) idle) same
      ∙ ap (λ r. cond (nat_lt 1 (unwrap_or_range r).end_inclusive) (option a.id) idle) is.one

  value_met_is : word_met c [] false (option a.id) p (d ∷ ds) waits ≡ (holds, next idle)
  value_met_is = value_met d ds e c p a.id waits
      ∙ ap (λ f. ((option_word f a.id (d ∷ ds) waits).0, next (option_word f a.id (d ∷ ds) waits).1)) is.by_id
      ∙ ap (λ w. (holds, next w)) full

  pub value_step : walked c [] (at p (option a.id) waits) (d ∷ ds) ≡ at p idle holds
  unfolding walked
  value_step = ap (λ m. after_step c (d ∷ ds) (at p (option a.id) waits) m.0 m.1) value_met_is

-- the word of an option fails where what was pending fails
module _ (s : Shape) (word : Text) (a : Rule) (is : IsOptionWord s.rules word a) (p : ℕ) (h : Held) where
  flagged : word_fault s [] false idle word h ≡ settle_fault s.rules s.args_override_self h
  flagged = ap (λ b. cond b [] (flag_word_fault s.rules s.args_override_self (long_of word) word h)) is.no_dashes
      ∙ ap (λ o. flag_word_fault s.rules s.args_override_self o word h) is.is_long
      ∙ ap (λ f. long_fault s.rules s.args_override_self f None h) is.by_long
      ∙ ap (λ b. cond b (option_fault s.rules s.args_override_self a None h) (react_fault s.rules s.args_override_self a [] h)) (takes_one s.rules a is.single)

  pub option_fault_is : turn_fault s [] (at p idle h) word ≡ settle_fault s.rules s.args_override_self h
  option_fault_is = ap (λ k. or_else k (step_fault s p (word_met s.rules [] false idle p word h).0 (word_met s.rules [] false idle p word h).1)) flagged
      ∙ ap (λ m. or_else (settle_fault s.rules s.args_override_self h) (step_fault s p m.0 m.1)) (option_met_is s.rules word a is p h)
      ∙ or_else-nil (settle_fault s.rules s.args_override_self h)
