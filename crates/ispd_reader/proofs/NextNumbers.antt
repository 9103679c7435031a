-- A number that is next, and what it has to be.
use Rattle.std.proofs.Common.{◌≡◌, ℕ, Bool, true, false, ℤ, Option, Some, None, Result, Ok, Err, refl, sym, ap, ◌∙◌}
use Rattle.std.specs.Option.{ok_or}
use Rattle.text_scan.specs.Reading.{past_token}
use Rattle.text_scan.specs.Within.{within}
use Rattle.text_scan.specs.declared.number.Number.{Number}
use Rattle.text_scan.proofs.Parts.{Refuses-with}
use Rattle.grid_graph.specs.Limits.{max_id}
use Rattle.design_tokens.specs.declared.cut_token.CutToken.{CutToken}
use Rattle.design_tokens.specs.declared.input_error.InputError.{InputError}
use Rattle.design_tokens.specs.declared.input_fault.InputFault.{InputFault}
use Rattle.design_tokens.specs.declared.input_fault.InputFault.TheVariants.{Range, DuplicateId}
use Rattle.design_tokens.specs.Parsing.{Reading, or_refuse, Refuses, refusal_in}
use Rattle.design_tokens.specs.Numbers.{number_at}
use Rattle.ispd_reader.specs.Nets.{id_at}
use Rattle.ispd_reader.specs.PinParts.{checked_number_at}
use Rattle.design_tokens.specs.Steps.{IsNext}

or_refuse_is : {A F : Type 0} (o : Option A) (fault : F) → or_refuse o fault ≡ ok_or o fault
or_refuse_is (Some x) fault = refl
or_refuse_is None fault = refl

-- the token is no number
pub number_refused : {A : Type 0} (c : CutToken) (what : ℤ → Option A) (fault : ℕ → InputFault) (e : InputError) →
    ((r : Reading) → IsNext c r → Refuses refusal_in e (number_at r)) → (r : Reading) → IsNext c r → Refuses refusal_in e (checked_number_at what fault r)
number_refused {A} c what fault e refused r next = Refuses-with refusal_in e (number_at r) (checked_number_at what fault r) (λ fault is. rw is refl) (refused r next)

-- it is a number that is none of those wanted
pub wrong_number : {A : Type 0} (c : CutToken) (what : ℤ → Option A) (fault : ℕ → InputFault) (number : Number) (found : Option A) (refusal : InputFault) →
    ((r : Reading) → IsNext c r → number_at r ≡ Ok (number, past_token r)) → found ≡ what number.value → ◌≡◌ {A = Result A InputFault} (Err refusal) (ok_or found (fault number.at)) →
    (r : Reading) → IsNext c r → checked_number_at what fault r ≡ Err refusal
wrong_number c what fault number found refusal reads is refused r next =
    let or : or_refuse (what number.value) (fault number.at) ≡ Err refusal = ap (λ o. or_refuse o (fault number.at)) (sym is) ∙ or_refuse_is found (fault number.at) ∙ sym refused in
    rw (reads r next, or) refl

-- it is one of those
pub right_number : {A : Type 0} (c : CutToken) (what : ℤ → Option A) (fault : ℕ → InputFault) (number : Number) (found : Option A) (x : A) →
    ((r : Reading) → IsNext c r → number_at r ≡ Ok (number, past_token r)) → found ≡ what number.value → ◌≡◌ {A = Result A InputFault} (Ok x) (ok_or found (fault number.at)) →
    (r : Reading) → IsNext c r → checked_number_at what fault r ≡ Ok (x, past_token r)
right_number c what fault number found x reads is good r next =
    let or : or_refuse (what number.value) (fault number.at) ≡ Ok x = ap (λ o. or_refuse o (fault number.at)) (sym is) ∙ or_refuse_is found (fault number.at) ∙ sym good in
    rw (reads r next, or) refl

-- ---- the id of a net

pub no_id : (c : CutToken) (taken : ℕ → Bool) (e : InputError) → ((r : Reading) → IsNext c r → Refuses refusal_in e (number_at r)) → (r : Reading) → IsNext c r → Refuses refusal_in e (id_at taken r)
unfolding id_at
no_id c taken e refused r next = Refuses-with refusal_in e (number_at r) (id_at taken r) (λ fault is. rw is refl) (refused r next)

pub wrong_id : (c : CutToken) (taken : ℕ → Bool) (number : Number) (found : Option ℕ) (refusal : InputFault) →
    ((r : Reading) → IsNext c r → number_at r ≡ Ok (number, past_token r)) → found ≡ within 0 max_id number.value → ◌≡◌ {A = Result ℕ InputFault} (Err refusal) (ok_or found (Range number.at)) →
    (r : Reading) → IsNext c r → id_at taken r ≡ Err refusal
unfolding id_at
wrong_id c taken number found refusal reads is refused r next =
    let or : or_refuse (within 0 max_id number.value) (Range number.at) ≡ Err refusal = ap (λ o. or_refuse o (Range number.at)) (sym is) ∙ or_refuse_is found (Range number.at) ∙ sym refused in
    rw (reads r next, or) refl

pub taken_id : (c : CutToken) (taken : ℕ → Bool) (number : Number) (found : Option ℕ) (id : ℕ) →
    ((r : Reading) → IsNext c r → number_at r ≡ Ok (number, past_token r)) → found ≡ within 0 max_id number.value → ◌≡◌ {A = Result ℕ InputFault} (Ok id) (ok_or found (Range number.at)) → taken id ≡ true →
    (r : Reading) → IsNext c r → id_at taken r ≡ Err (DuplicateId number.at id)
unfolding id_at
taken_id c taken number found id reads is good there r next =
    let or : or_refuse (within 0 max_id number.value) (Range number.at) ≡ Ok id = ap (λ o. or_refuse o (Range number.at)) (sym is) ∙ or_refuse_is found (Range number.at) ∙ sym good in
    rw (reads r next, or, there) refl

pub free_id : (c : CutToken) (taken : ℕ → Bool) (number : Number) (found : Option ℕ) (id : ℕ) →
    ((r : Reading) → IsNext c r → number_at r ≡ Ok (number, past_token r)) → found ≡ within 0 max_id number.value → ◌≡◌ {A = Result ℕ InputFault} (Ok id) (ok_or found (Range number.at)) → taken id ≡ false →
    (r : Reading) → IsNext c r → id_at taken r ≡ Ok (id, past_token r)
unfolding id_at
free_id c taken number found id reads is good free r next =
    let or : or_refuse (within 0 max_id number.value) (Range number.at) ≡ Ok id = ap (λ o. or_refuse o (Range number.at)) (sym is) ∙ or_refuse_is found (Range number.at) ∙ sym good in
    rw (reads r next, or, free) refl
