-- What one more token does to what is left to be read, whatever text it stands in.
use Rattle.std.specs.Prelude.{◌≡◌, List, [], ◌∷◌, length, Option, None, Some, IfSome, Result, Ok, Err}
use Rattle.text_scan.specs.Tokens.{Token}
use Rattle.text_scan.specs.Reading.{tokens_left, past_token}
use Rattle.design_tokens.specs.declared.cut_token.CutToken.{CutToken}
use Rattle.design_tokens.specs.declared.input_error.InputError.{InputError}
use Rattle.design_tokens.specs.declared.input_fault.InputFault.{InputFault}
use Rattle.design_tokens.specs.declared.input_fault.InputFault.TheVariants.{Syntax}
use Rattle.design_tokens.specs.declared.wanted.Wanted.{Wanted}
use Rattle.design_tokens.specs.CutTokens.{IsCutToken}
use Rattle.design_tokens.specs.Parsing.{Reading, InputRead, IsReadAs, refusal_in}

-- the first token that is left is this one
pub record IsNext (c : CutToken) (r : Reading) : Type 0 where
  pub token : Token
  pub later : List Token
  pub first : tokens_left r ≡ token ∷ later
  pub known : IsCutToken c token

-- what a call answered, seen by view, is what reading the one token gives wherever it is next
abbrev pub ReadsNext : {X Y : Type 0} → CutToken → (X → Y) → Result X InputError → (Reading → InputRead Y) → Type 0
ReadsNext c view result read = (r : Reading) → IsNext c r → IsReadAs refusal_in view result (past_token r) (read r)

-- where the token is next, what was left to be read before it is what is left behind it
abbrev pub LeavesNext : {A : Type 0} → CutToken → (Reading → A) → (Reading → A) → Type 0
LeavesNext c old new = (r : Reading) → IsNext c r → old r ≡ new (past_token r)

-- where the token is next, what was left to be read is refused for what the error says; want of memory is free
abbrev pub RefusesNext : {A : Type 0} → CutToken → InputError → (Reading → Result A InputFault) → Type 0
RefusesNext c e old = IfSome (refusal_in e) (λ fault. (r : Reading) → IsNext c r → old r ≡ Err fault)

-- a reader has taken the token, or it is refused
abbrev pub TakesNext : {A : Type 0} → CutToken → Result (Unit {0}) InputError → (Reading → Result A InputFault) → (Reading → Result A InputFault) → Type 0
TakesNext c (Ok done) old new = LeavesNext c old new
TakesNext c (Err e) old new = RefusesNext c e old

-- a reader has taken the token, or all that it reads ends with it, or it is refused
abbrev pub TakesOrEnds : {X Y : Type 0} → CutToken → (X → Y) → Result (Option X) InputError → (Reading → InputRead Y) → (Reading → InputRead Y) → Type 0
TakesOrEnds c view (Ok None) old new = LeavesNext c old new
TakesOrEnds c view (Ok (Some x)) old new = (r : Reading) → IsNext c r → old r ≡ Ok (view x, past_token r)
TakesOrEnds c view (Err e) old new = RefusesNext c e old

-- where no token is left, this word is missing at the end of the text
abbrev pub IsMissing : {A : Type 0} → Wanted → (Reading → Result A InputFault) → Type 0
IsMissing wanted left = (r : Reading) → tokens_left r ≡ [] → left r ≡ Err (Syntax (length r.text) wanted)
