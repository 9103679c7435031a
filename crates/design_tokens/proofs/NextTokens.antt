-- What reading the next token gives.
use Rattle.std.proofs.Common.{◌≡◌, ℕ, true, false, List, [], length, Option, Some, None, Result, Ok, Err, refl, sym, ℤ, pos, of_z, to_z, SFits, w64, arith}
use Rattle.std.specs.Prelude.{int_lt}
use Rattle.std.specs.Result.{IsErrAnd}
use Rattle.std.specs.Option.{ok_or}
use Rattle.std.specs.Str.{bytes_eq}
use Rattle.std.proofs.lemmas.Int.{ints, to_z-of_z}
use Rattle.text_scan.specs.Tokens.{Token}
use Rattle.text_scan.specs.Reading.{past_token, tokens_left}
use Rattle.text_scan.specs.Within.{within}
use Rattle.text_scan.specs.declared.number.Number.{Number}
use Rattle.text_scan.specs.declared.number_fault.NumberFault.{NumberFault}
use Rattle.text_scan.proofs.Parts.{Refuses-with}
use Rattle.grid_graph.specs.Layouts.{IsPosition}
use Rattle.design_tokens.specs.declared.cut_token.CutToken.{CutToken}
use Rattle.design_tokens.specs.declared.input_error.InputError.{InputError}
use Rattle.design_tokens.specs.declared.input_error.InputError.TheVariants.{Input, NoMemory}
use Rattle.design_tokens.specs.declared.input_fault.InputFault.{InputFault}
use Rattle.design_tokens.specs.declared.input_fault.InputFault.TheVariants.{Syntax, TileSize}
use Rattle.design_tokens.specs.declared.wanted.Wanted.{Wanted}
use Rattle.design_tokens.specs.declared.wanted.Wanted.TheVariants as wanted
use Rattle.design_tokens.specs.Words.{spelling}
use Rattle.design_tokens.specs.CutTokens.{IsCutToken}
use Rattle.design_tokens.specs.Numerals.{design_number}
use Rattle.design_tokens.specs.Numbers.{word_at, name_at, number_at, number_within, side_at}
use Rattle.design_tokens.specs.Parsing.{Reading, InputRead, refusal_in}
use Rattle.design_tokens.specs.Refusals.{refusal_of}
use Rattle.design_tokens.specs.Steps.{IsNext, ReadsNext, RefusesNext}

-- a word
pub word_is_next : (c : CutToken) (w : Wanted) → ((t : Token) → IsCutToken c t → bytes_eq t.bytes (spelling w) ≡ true) → ReadsNext c (λ (x : Unit {0}). tt) (Ok tt) (word_at w)
unfolding word_at
word_is_next c w is = λ r next. rw (next.first, is next.token next.known) refl

-- another token
pub word_is_other : (c : CutToken) (w : Wanted) → ((t : Token) → IsCutToken c t → bytes_eq t.bytes (spelling w) ≡ false) → ReadsNext c (λ (x : Unit {0}). tt) (Err (Input (Syntax c.place w))) (word_at w)
unfolding word_at
word_is_other c w is = λ r next. rw (next.first, is next.token next.known, next.known.place) refl

-- a name
pub name_is_next : (c : CutToken) (bytes : List ℕ) → ((t : Token) → IsCutToken c t → bytes ≡ t.bytes) → (r : Reading) → IsNext c r → name_at r ≡ Ok (bytes, past_token r)
unfolding name_at
name_is_next c bytes is = λ r next. rw (next.first, is next.token next.known) refl

-- a number
pub number_is_next : (c : CutToken) (n : Number) → ((t : Token) → IsCutToken c t → Ok n ≡ design_number t) → ReadsNext c (λ (x : Number). x) (Ok n) number_at
unfolding number_at
number_is_next c n is = λ r next. rw next.first (rw (← is next.token next.known) refl)

-- no number of a design
pub number_is_other : (c : CutToken) (fault : NumberFault) → ((t : Token) → IsCutToken c t → Err fault ≡ design_number t) → ReadsNext c (λ (x : Number). x) (Err (Input (refusal_of fault))) number_at
unfolding number_at
number_is_other c fault is = λ r next. rw next.first (rw (← is next.token next.known) refl)

-- an error in other words
pub reads_err : {X Y : Type 0} (c : CutToken) (view : X → Y) (read : Reading → InputRead Y) (result : Result X InputError) (e : InputError) → IsErrAnd result (λ x. x ≡ e) → ReadsNext c view (Err e) read → ReadsNext c view result read
reads_err c view read (Ok x) e is next = absurd is
reads_err c view read (Err x) e is next = λ r at. rw is (next r at)

-- a number that is refused
pub within_refused : (c : CutToken) (lo hi : ℕ) (refusal : ℕ → InputFault) (e : InputError) → ReadsNext c (λ (x : Number). x) (Err e) number_at → ReadsNext c (λ (x : ℕ). x) (Err e) (number_within lo hi refusal)
unfolding number_within
within_refused c lo hi refusal e refused = λ r next. Refuses-with refusal_in e (number_at r) (number_within lo hi refusal r) (λ fault same. rw same refl) (refused r next)

-- a number within its limits
pub within_is_next : (c : CutToken) (lo hi : ℕ) (refusal : ℕ → InputFault) (n : Number) (found : Option ℕ) (value : ℕ) → found ≡ within lo hi n.value → Ok value ≡ ok_or found (refusal n.at) →
    ReadsNext c (λ (x : Number). x) (Ok n) number_at → ReadsNext c (λ (x : ℕ). x) (Ok value) (number_within lo hi refusal)
unfolding number_within
within_is_next c lo hi refusal n None value same is read = absurd (cc)
within_is_next c lo hi refusal n (Some m) value same is read = λ r next. rw (read r next, sym same) (let e : m ≡ value = cc in rw e refl)

-- a number beyond them
pub within_is_other : (c : CutToken) (lo hi : ℕ) (refusal : ℕ → InputFault) (n : Number) (found : Option ℕ) (fault : InputFault) → found ≡ within lo hi n.value → Err fault ≡ ok_or found (refusal n.at) →
    ReadsNext c (λ (x : Number). x) (Ok n) number_at → ReadsNext c (λ (x : ℕ). x) (Err (Input fault)) (number_within lo hi refusal)
unfolding number_within
within_is_other c lo hi refusal n (Some m) fault same is read = absurd (cc)
within_is_other c lo hi refusal n None fault same is read = λ r next. rw (read r next, sym same) (let e : refusal n.at ≡ fault = cc in rw e refl)

-- a side whose number is refused
pub side_refused : (c : CutToken) (e : InputError) → ReadsNext c (λ (x : Number). x) (Err e) number_at → ReadsNext c (λ (x : ℤ). x) (Err e) side_at
unfolding side_at
side_refused c e refused = λ r next. Refuses-with refusal_in e (number_at r) (side_at r) (λ fault same. rw same refl) (refused r next)

-- a side
pub side_is_next : (c : CutToken) (n : Number) → int_lt n.value (pos 1) ≡ false → ReadsNext c (λ (x : Number). x) (Ok n) number_at → ReadsNext c (λ (x : ℤ). x) (Ok n.value) side_at
unfolding side_at
side_is_next c n large read = λ r next. rw (read r next, large) refl

-- a side that is too short
pub side_is_other : (c : CutToken) (n : Number) → int_lt n.value (pos 1) ≡ true → ReadsNext c (λ (x : Number). x) (Ok n) number_at → ReadsNext c (λ (x : ℤ). x) (Err (Input (TileSize n.at))) side_at
unfolding side_at
side_is_other c n small read = λ r next. rw (read r next, small) refl

-- a position is kept as it is in 64 bits
pub position_stays : (z : ℤ) → IsPosition z → to_z w64 (of_z w64 z) ≡ z
position_stays z is = let fits : SFits w64 z = omega (arith, ints) in to_z-of_z w64 z fits

-- ---- what is left to be read

-- what refuses the one refuses the other
pub refused_left : {A B : Type 0} (c : CutToken) (e : InputError) (one : Reading → Result A InputFault) (two : Reading → Result B InputFault) →
    ((r : Reading) (fault : InputFault) → one r ≡ Err fault → two r ≡ Err fault) → RefusesNext c e one → RefusesNext c e two
refused_left c (Input fault) one two so refused = λ r next. so r fault (refused r next)
refused_left c NoMemory one two so refused = tt

-- what is refused with the value that is next
pub refuses_next : {X Y B : Type 0} (c : CutToken) (e : InputError) (view : X → Y) (read : Reading → InputRead Y) (left : Reading → Result B InputFault) →
    ((r : Reading) (fault : InputFault) → read r ≡ Err fault → left r ≡ Err fault) → ReadsNext c view (Err e) read → RefusesNext c e left
refuses_next c (Input fault) view read left so refused = λ r next. so r fault (refused r next)
refuses_next c NoMemory view read left so refused = tt

-- ---- where no token is left

pub no_word : (word : Wanted) (r : Reading) → tokens_left r ≡ [] → word_at word r ≡ Err (Syntax (length r.text) word)
unfolding word_at
no_word word r none = rw none refl

pub no_name : (r : Reading) → tokens_left r ≡ [] → name_at r ≡ Err (Syntax (length r.text) wanted.Name)
unfolding name_at
no_name r none = rw none refl

pub no_number : (r : Reading) → tokens_left r ≡ [] → number_at r ≡ Err (Syntax (length r.text) wanted.Number)
unfolding number_at
no_number r none = rw none refl

pub no_number_within : (lo hi : ℕ) (refusal : ℕ → InputFault) (r : Reading) → tokens_left r ≡ [] → number_within lo hi refusal r ≡ Err (Syntax (length r.text) wanted.Number)
unfolding number_within
no_number_within lo hi refusal r none = rw (no_number r none) refl

pub no_side : (r : Reading) → tokens_left r ≡ [] → side_at r ≡ Err (Syntax (length r.text) wanted.Number)
unfolding side_at
no_side r none = rw (no_number r none) refl
