-- What a reader that is fed has read.
use Rattle.std.specs.Prelude.{◌≡◌, ◌≤◌, ◌<◌, ◌↔◌, ℕ, ◌+◌, ◌-◌, ◌^◌, min, List, [], ◌∷◌, ◌++◌, length, take, Bool, not, true, false, IsTrue, Option, None, Some, IfSome, Result, Ok, Err}
use Rattle.std.specs.List.{list_all}
use Rattle.text_scan.specs.Tokens.{is_blank, is_gap, ends_word}
use Rattle.text_scan.specs.Reading.{whole, tokens_left}
use Rattle.design_tokens.specs.declared.cut_token.CutToken.{CutToken}
use Rattle.design_tokens.specs.declared.input_error.InputError.{InputError}
use Rattle.design_tokens.specs.declared.input_error.InputError.TheVariants.{Input, NoMemory}
use Rattle.design_tokens.specs.declared.input_fault.InputFault.{InputFault}
use Rattle.design_tokens.specs.declared.input_fault.InputFault.TheVariants.{TooLong}
use Rattle.ispd_reader.specs.declared.machine.Machine.{Machine}
use Rattle.ispd_reader.specs.declared.progress.Progress.{Progress}
use Rattle.ispd_reader.specs.declared.reader.Reader.{Reader}
use Rattle.ispd_reader.specs.Adjustments.{Adjustment}
use Rattle.design_tokens.specs.CutTokens.{IsCutToken, has_no_byte}
use Rattle.ispd_reader.specs.Designs.{contents_at, contents_of}
use Rattle.ispd_reader.specs.Limits.{max_bytes}
use Rattle.ispd_reader.specs.MachineLeft.{left_of, Stands}
use Rattle.design_tokens.specs.Parsing.{Reading, refusal_in, Refuses}

-- every text that begins so, and is not too long, is refused for this
abbrev pub RefusesAll : List ℕ → InputFault → Type 0
RefusesAll text fault = (more : List ℕ) → length (text ++ more) ≤ max_bytes → contents_of (text ++ more) ≡ Err fault

-- a blank is the last byte
pub record EndsInBlank (text : List ℕ) : Type 0 where
  pub front : List ℕ
  pub blank : ℕ
  pub is : IsTrue (is_blank blank)
  pub parts : text ≡ front ++ blank ∷ []

-- none of the bytes is a blank
abbrev pub is_solid : List ℕ → Bool
is_solid bytes = list_all (λ b. not (is_blank b)) bytes

-- what is known of the token that begins at a place, of its bytes so far; none where there is none
abbrev pub IsCut : CutToken → ℕ → List ℕ → Type 0
IsCut token place [] = has_no_byte token ≡ true
IsCut token place (b ∷ bs) = (has_no_byte token ≡ false) × IsCutToken token (record { place = place; bytes = b ∷ bs })

-- the machine has taken all tokens of the text but the one that it ends in, and this is what is known of that one
pub record HasTaken (machine : Machine) (token : CutToken) (text : List ℕ) : Type 0 where
  pub made : List Adjustment
  pub front : List ℕ
  pub gap : List ℕ
  pub cut : List ℕ
  pub parts : text ≡ front ++ (gap ++ cut)
  pub blank : IsTrue (is_gap gap)
  pub word : IsTrue (is_solid cut)
  pub known : IsCut token (length front + length gap) cut
  pub stands : Stands machine made
  pub says : (more : List ℕ) → contents_at (whole (text ++ more)) ≡ left_of machine made (record { text = text ++ more; place = length front })

-- the same of the two together
abbrev pub HasReached : Progress → List ℕ → Type 0
HasReached progress text = HasTaken progress.machine progress.token text

-- the machine has taken all tokens of a text that goes on with a blank, or ends
pub record HasTakenAll (machine : Machine) (text : List ℕ) : Type 0 where
  pub made : List Adjustment
  pub stands : Stands machine made
  pub says : (rest : List ℕ) → IsTrue (ends_word rest) → contents_at (whole (text ++ rest)) ≡ left_of machine made (record { text = text ++ rest; place = length text })

-- no token of the text is left to the machine
pub record IsOver (machine : Machine) (text : List ℕ) : Type 0 where
  pub made : List Adjustment
  pub reading : Reading
  pub stands : Stands machine made
  pub says : contents_at (whole text) ≡ left_of machine made reading
  pub none : tokens_left reading ≡ []
  pub long : length reading.text ≡ length text

-- the last token was taken, or it is what each text that goes on with a blank, or ends, is refused for
abbrev pub HasClosed : Machine → CutToken → Result (Unit {0}) InputError → List ℕ → Type 0
HasClosed machine token (Ok done) text = HasTakenAll machine text × (has_no_byte token ≡ true)
HasClosed machine token (Err e) text = IfSome (refusal_in e) (λ fault. (rest : List ℕ) → IsTrue (ends_word rest) → contents_at (whole (text ++ rest)) ≡ Err fault)

-- the end was taken
abbrev pub HasEnded : Machine → Result (Unit {0}) InputError → List ℕ → Type 0
HasEnded machine (Ok done) text = IsOver machine text
HasEnded machine (Err e) text = Refuses refusal_in e (contents_at (whole text))

-- the text was read, or each text that begins so is refused for what the error says
abbrev pub HasGoneOn : Progress → Result (Unit {0}) InputError → List ℕ → Type 0
HasGoneOn new (Ok done) text = HasReached new text
HasGoneOn new (Err e) text = IfSome (refusal_in e) (λ fault. (more : List ℕ) → contents_at (whole (text ++ more)) ≡ Err fault)

-- so many of the bytes behind a text were read, or each text that begins with the two is refused for what the error says
abbrev pub HasReadSome : Progress → Result ℕ InputError → List ℕ → List ℕ → Type 0
HasReadSome new (Ok n) text bytes = HasReached new (text ++ take n bytes)
HasReadSome new (Err e) text bytes = IfSome (refusal_in e) (λ fault. (more : List ℕ) → contents_at (whole ((text ++ bytes) ++ more)) ≡ Err fault)

-- what was answered of the bytes so far
abbrev pub IsAnswered : Option InputError → Progress → List ℕ → Type 0
IsAnswered None progress text = (length text ≤ max_bytes) × HasReached progress text
IsAnswered (Some NoMemory) progress text = Unit {0}
IsAnswered (Some (Input fault)) progress text = ((fault ≡ TooLong) ↔ (max_bytes < length text)) × RefusesAll text fault

-- these are the bytes that it was fed
pub record HasRead (reader : Reader) (text : List ℕ) : Type 0 where
  pub fed : reader.fed ≡ min (length text) (2 ^ 64 - 1)
  pub so_far : IsAnswered reader.answered reader.progress text

-- what it answers from then on; none where nothing was refused
abbrev pub answered : Reader → Option InputError
answered reader = reader.answered
