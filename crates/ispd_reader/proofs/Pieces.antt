-- A text that comes in pieces: what is known of it byte by byte.
use Rattle.std.proofs.Common.{◌≡◌, ℕ, ◌+◌, ◌-◌, ◌<◌, ◌≤◌, true, false, not, nat_lt, List, [], ◌∷◌, ◌++◌, length, get_or, take, drop, Option, Some, None, Result, Ok, Err, refl, sym, ap, ◌∙◌, subst, arith, ⊎_elim, one-add, true≢false, lt-ltb, append_assoc, length-append, length-take, length-drop, drop_at}
use Rattle.std.specs.List.{list_all, position_or_len}
use Rattle.std.specs.Prelude.{IfSome, IfOk}
use Rattle.std.proofs.lemmas.Bool.{and_from, and_parts, not-true, cases_Bool}
use Rattle.std.proofs.Math.Seq.{take-add}
use Rattle.std.proofs.lemmas.List.{append-nil, take_all, take-append-drop}
use Rattle.std.proofs.lemmas.List.Folds.{list_all-append}
use Rattle.text_scan.specs.Tokens.{Token, is_blank, is_gap, is_word, ends_word, tokens_from}
use Rattle.text_scan.specs.Reading.{left, whole, tokens_left, past_token}
use Rattle.text_scan.proofs.Words.{tokens_after_gap, word_is_token}
use Rattle.design_tokens.specs.declared.cut_token.CutToken.{CutToken}
use Rattle.design_tokens.specs.declared.input_error.InputError.{InputError}
use Rattle.design_tokens.specs.declared.input_fault.InputFault.{InputFault}
use Rattle.ispd_reader.specs.declared.machine.Machine.{Machine}
use Rattle.design_tokens.specs.CutTokens.{IsCutToken, has_no_byte}
use Rattle.ispd_reader.specs.Designs.{contents_at}
use Rattle.ispd_reader.specs.MachineLeft.{left_of, Stands, MovesOn}
use Rattle.design_tokens.specs.Parsing.{Reading, refusal_in}
use Rattle.design_tokens.specs.Steps.{IsNext, LeavesNext}
use Rattle.ispd_reader.specs.declared.progress.Progress.{Progress}
use Rattle.ispd_reader.specs.Readers.{is_solid, IsCut, HasTaken, HasTakenAll, HasReached, HasReadSome, HasClosed, HasEnded, HasGoneOn, IsOver}

-- the text goes on so, and is read up to the end of the front
abbrev pub behind : List ℕ → List ℕ → List ℕ → Reading
behind text rest front = record { text = text ++ rest; place = length front }

-- what holds of a value that may be there
pub IfSome-with : {A : Type 0} (o : Option A) (P Q : A → Type 0) → ((x : A) → P x → Q x) → IfSome o P → IfSome o Q
IfSome-with None P Q so h = tt
IfSome-with (Some x) P Q so h = so x h

-- ---- the tokens behind a front

bytes_behind : (text rest front gap cut : List ℕ) → text ≡ front ++ (gap ++ cut) → left (behind text rest front) ≡ gap ++ (cut ++ rest)
bytes_behind text rest front gap cut parts =
    let joined : text ++ rest ≡ front ++ (gap ++ (cut ++ rest)) =
    ap (λ (bytes : List ℕ). bytes ++ rest) parts ∙ append_assoc front (gap ++ cut) rest ∙ ap (λ (bytes : List ℕ). front ++ bytes) (append_assoc gap cut rest) in
    ap (λ (bytes : List ℕ). drop (length front) bytes) joined ∙ drop_at front (gap ++ (cut ++ rest)) (length front) refl

pub tokens_behind : (text rest front gap cut : List ℕ) → text ≡ front ++ (gap ++ cut) → is_gap gap ≡ true → tokens_left (behind text rest front) ≡ tokens_from (length front + length gap) (cut ++ rest)
tokens_behind text rest front gap cut parts blank =
    ap (λ (bytes : List ℕ). tokens_from (length front) bytes) (bytes_behind text rest front gap cut parts) ∙ tokens_after_gap (length front) gap (cut ++ rest) blank

length_of_parts : (text front gap cut : List ℕ) → text ≡ front ++ (gap ++ cut) → length front + length gap + length cut ≡ length text
length_of_parts text front gap cut parts = rw parts (omega (arith, length-append front (gap ++ cut), length-append gap cut))

is_word_of : (b : ℕ) (bs : List ℕ) → list_all (λ x. not (is_blank x)) (b ∷ bs) ≡ true → is_word (b ∷ bs) ≡ true
is_word_of b bs word = and_from (nat_lt 0 (length (b ∷ bs))) _ (lt-ltb 0 (length (b ∷ bs)) (omega arith)) word

-- the token that a text ends in is next, where a blank or nothing follows, and this is behind it
record IsNextIn (c : CutToken) (text rest front : List ℕ) : Type 0 where
  pub next : IsNext c (behind text rest front)
  pub after : past_token (behind text rest front) ≡ behind text rest text

cut_is_next : (c : CutToken) (text rest front gap cut : List ℕ) → text ≡ front ++ (gap ++ cut) → is_gap gap ≡ true → list_all (λ x. not (is_blank x)) cut ≡ true →
    IsCut c (length front + length gap) cut → has_no_byte c ≡ false → ends_word rest ≡ true → IsNextIn c text rest front
cut_is_next c text rest front gap [] parts blank word known some ends = absurd (true≢false (sym known ∙ some))
cut_is_next c text rest front gap (b ∷ bs) parts blank word known some ends =
    let place : ℕ = length front + length gap in
    let token : Token = record { place = place; bytes = b ∷ bs } in
    let later : List Token = tokens_from (place + length (b ∷ bs)) rest in
    let first : tokens_left (behind text rest front) ≡ token ∷ later =
    tokens_behind text rest front gap (b ∷ bs) parts blank ∙ word_is_token place (b ∷ bs) rest (is_word_of b bs word) ends in
    record {
      next = record { token = token; later = later; first = first; known = known.1 };
      after = rw first (ap (λ (n : ℕ). record { text = text ++ rest; place = n }) (length_of_parts text front gap (b ∷ bs) parts));
    }

-- the token in progress is next
next_in : (m : Machine) (c : CutToken) (text rest : List ℕ) (so_far : HasTaken m c text) → has_no_byte c ≡ false → ends_word rest ≡ true → IsNextIn c text rest so_far.front
next_in m c text rest so_far some ends = cut_is_next c text rest so_far.front so_far.gap so_far.cut so_far.parts so_far.blank so_far.word so_far.known some ends

-- ---- the token in progress has ended

-- it was taken
token_taken : (old new : Machine) (c : CutToken) (text : List ℕ) (so_far : HasTaken old c text) (after : _) → has_no_byte c ≡ false → Stands new after →
    LeavesNext c (left_of old so_far.made) (left_of new after) → HasTakenAll new text
token_taken old new c text so_far after some stands leaves = record {
  made = after;
  stands = stands;
  says = λ rest ends. let here = next_in old c text rest so_far some ends in
      so_far.says rest ∙ leaves (behind text rest so_far.front) here.next ∙ ap (left_of new after) here.after;
}

-- or it is refused
token_refused : (old : Machine) (c : CutToken) (text rest : List ℕ) (fault : InputFault) (so_far : HasTaken old c text) → has_no_byte c ≡ false → ends_word rest ≡ true →
    ((r : Reading) → IsNext c r → left_of old so_far.made r ≡ Err fault) → contents_at (whole (text ++ rest)) ≡ Err fault
token_refused old c text rest fault so_far some ends refused =
    so_far.says rest ∙ refused (behind text rest so_far.front) (next_in old c text rest so_far some ends).next

-- ---- one more byte

nothing_cut : (c : CutToken) (place : ℕ) (cut : List ℕ) → IsCut c place cut → has_no_byte c ≡ true → cut ≡ []
nothing_cut c place [] known none = refl
nothing_cut c place (b ∷ bs) known none = absurd (true≢false (sym none ∙ known.0))

says_more : (m : Machine) (made : _) (text front run : List ℕ) → ((more : List ℕ) → contents_at (whole (text ++ more)) ≡ left_of m made (behind text more front)) →
    (more : List ℕ) → contents_at (whole ((text ++ run) ++ more)) ≡ left_of m made (behind (text ++ run) more front)
says_more m made text front run says more = rw (append_assoc text run more) (says (run ++ more))

-- a blank behind all tokens
blank_behind_all : (m : Machine) (c : CutToken) (text : List ℕ) (b : ℕ) → is_blank b ≡ true → has_no_byte c ≡ true → HasTakenAll m text → HasTaken m c (text ++ b ∷ [])
blank_behind_all m c text b blank none taken = record {
  made = taken.made;
  front = text;
  gap = b ∷ [];
  cut = [];
  parts = refl;
  blank = and_from (is_blank b) true blank refl;
  word = refl;
  known = none;
  stands = taken.stands;
  says = λ more. rw (append_assoc text (b ∷ []) more) (taken.says (b ∷ more) blank);
}

-- a blank where no token is in progress
pub blank_passed : (m : Machine) (c : CutToken) (text : List ℕ) (b : ℕ) → is_blank b ≡ true → has_no_byte c ≡ true → HasTaken m c text → HasTaken m c (text ++ b ∷ [])
blank_passed m c text b blank none so_far =
    let bare : so_far.cut ≡ [] = nothing_cut c (length so_far.front + length so_far.gap) so_far.cut so_far.known none in
    let joined : text ++ b ∷ [] ≡ so_far.front ++ ((so_far.gap ++ b ∷ []) ++ []) =
    ap (λ (bytes : List ℕ). bytes ++ b ∷ []) (so_far.parts ∙ ap (λ (bytes : List ℕ). so_far.front ++ (so_far.gap ++ bytes)) bare ∙ ap (λ (bytes : List ℕ). so_far.front ++ bytes) (append-nil so_far.gap))
    ∙ append_assoc so_far.front so_far.gap (b ∷ []) ∙ ap (λ (bytes : List ℕ). so_far.front ++ bytes) (sym (append-nil (so_far.gap ++ b ∷ []))) in
    record {
      made = so_far.made;
      front = so_far.front;
      gap = so_far.gap ++ b ∷ [];
      cut = [];
      parts = joined;
      blank = list_all-append is_blank so_far.gap (b ∷ []) ∙ and_from (is_gap so_far.gap) (is_gap (b ∷ [])) so_far.blank (and_from (is_blank b) true blank refl);
      word = refl;
      known = none;
      stands = so_far.stands;
      says = says_more m so_far.made text so_far.front (b ∷ []) so_far.says;
    }

-- a token begins
token_begun : (m : Machine) (old new : CutToken) (text : List ℕ) (b place : ℕ) → is_blank b ≡ false → has_no_byte old ≡ true → length text ≡ place →
    has_no_byte new ≡ false → IsCutToken new (record { place = place; bytes = b ∷ [] }) → HasTaken m old text → HasTaken m new (text ++ b ∷ [])
token_begun m old new text b place solid none long some known so_far =
    let bare : so_far.cut ≡ [] = nothing_cut old (length so_far.front + length so_far.gap) so_far.cut so_far.known none in
    let parts : text ≡ so_far.front ++ so_far.gap = so_far.parts ∙ ap (λ (bytes : List ℕ). so_far.front ++ (so_far.gap ++ bytes)) bare ∙ ap (λ (bytes : List ℕ). so_far.front ++ bytes) (append-nil so_far.gap) in
    let here : place ≡ length so_far.front + length so_far.gap = sym long ∙ ap length parts ∙ length-append so_far.front so_far.gap in
    record {
      made = so_far.made;
      front = so_far.front;
      gap = so_far.gap;
      cut = b ∷ [];
      parts = ap (λ (bytes : List ℕ). bytes ++ b ∷ []) parts ∙ append_assoc so_far.front so_far.gap (b ∷ []);
      blank = so_far.blank;
      word = and_from (not (is_blank b)) true (ap not solid) refl;
      known = (some, subst (λ (p : ℕ). IsCutToken new (record { place = p; bytes = b ∷ [] })) here known);
      stands = so_far.stands;
      says = says_more m so_far.made text so_far.front (b ∷ []) so_far.says;
    }

known_more : (old new : CutToken) (place : ℕ) (cut run : List ℕ) → has_no_byte old ≡ false → has_no_byte new ≡ false →
    ((t : Token) → IsCutToken old t → IsCutToken new (record { place = t.place; bytes = t.bytes ++ run })) → IsCut old place cut → IsCut new place (cut ++ run)
known_more old new place [] run some more grown known = absurd (true≢false (sym known ∙ some))
known_more old new place (x ∷ xs) run some more grown known = (more, grown (record { place = place; bytes = x ∷ xs }) known.1)

-- it goes on
token_grown : (m : Machine) (old new : CutToken) (text run : List ℕ) → is_solid run ≡ true → has_no_byte old ≡ false → has_no_byte new ≡ false →
    ((t : Token) → IsCutToken old t → IsCutToken new (record { place = t.place; bytes = t.bytes ++ run })) → HasTaken m old text → HasTaken m new (text ++ run)
token_grown m old new text run solid some more grown so_far = record {
  made = so_far.made;
  front = so_far.front;
  gap = so_far.gap;
  cut = so_far.cut ++ run;
  parts = ap (λ (bytes : List ℕ). bytes ++ run) so_far.parts ∙ append_assoc so_far.front (so_far.gap ++ so_far.cut) run ∙ ap (λ (bytes : List ℕ). so_far.front ++ bytes) (append_assoc so_far.gap so_far.cut run);
  blank = so_far.blank;
  word = list_all-append (λ (x : ℕ). not (is_blank x)) so_far.cut run ∙ and_from (is_solid so_far.cut) (is_solid run) so_far.word solid;
  known = known_more old new (length so_far.front + length so_far.gap) so_far.cut run some more grown so_far.known;
  stands = so_far.stands;
  says = says_more m so_far.made text so_far.front run so_far.says;
}

-- ---- the end

-- no token is in progress where the text ends
pub over_in_gap : (m : Machine) (c : CutToken) (text : List ℕ) → has_no_byte c ≡ true → HasTaken m c text → IsOver m text
over_in_gap m c text none so_far =
    let bare : so_far.cut ≡ [] = nothing_cut c (length so_far.front + length so_far.gap) so_far.cut so_far.known none in
    let same : text ++ [] ≡ text = append-nil text in
    record {
      made = so_far.made;
      reading = behind text [] so_far.front;
      stands = so_far.stands;
      says = ap (λ (bytes : List ℕ). contents_at (whole bytes)) (sym same) ∙ so_far.says [];
      none = tokens_behind text [] so_far.front so_far.gap so_far.cut so_far.parts so_far.blank ∙ ap (λ (bytes : List ℕ). tokens_from (length so_far.front + length so_far.gap) (bytes ++ [])) bare;
      long = ap length same;
    }

-- the token in progress was the last
over_behind_token : (m : Machine) (text : List ℕ) → HasTakenAll m text → IsOver m text
over_behind_token m text taken =
    let same : text ++ [] ≡ text = append-nil text in
    record {
      made = taken.made;
      reading = behind text [] text;
      stands = taken.stands;
      says = ap (λ (bytes : List ℕ). contents_at (whole bytes)) (sym same) ∙ taken.says [] refl;
      none = tokens_behind text [] text [] [] (sym (append-nil text)) refl;
      long = ap length same;
    }

-- ---- what the steps of the code make of these

-- nothing was read
pub at_front : (m : Machine) (c : CutToken) → Stands m [] → ((r : Reading) → left_of m [] r ≡ contents_at r) → has_no_byte c ≡ true → HasTaken m c []
at_front m c stands all none = record {
  made = [];
  front = [];
  gap = [];
  cut = [];
  parts = refl;
  blank = refl;
  word = refl;
  known = none;
  stands = stands;
  says = λ more. sym (all (whole more));
}

-- a token was taken, or is refused
pub token_closed : (old new : Machine) (c cleared : CutToken) (result : Result (Unit {0}) InputError) (text : List ℕ) (so_far : HasTaken old c text) → has_no_byte c ≡ false → has_no_byte cleared ≡ true →
    MovesOn c result old so_far.made new → HasClosed new cleared result text
token_closed old new c cleared (Ok done) text so_far some none moves = (token_taken old new c text so_far moves.0 some moves.1 moves.2, none)
token_closed old new c cleared (Err e) text so_far some none refused =
    IfSome-with (refusal_in e) (λ fault. (r : Reading) → IsNext c r → left_of old so_far.made r ≡ Err fault) (λ fault. (rest : List ℕ) → ends_word rest ≡ true → contents_at (whole (text ++ rest)) ≡ Err fault)
    (λ fault is rest ends. token_refused old c text rest fault so_far some ends is) refused

-- at the end of the text
pub closed_ends : (m : Machine) (c : CutToken) (result : Result (Unit {0}) InputError) (text : List ℕ) → HasClosed m c result text → HasEnded m result text
closed_ends m c (Ok done) text closed = over_behind_token m text closed.0
closed_ends m c (Err e) text refused =
    IfSome-with (refusal_in e) (λ fault. (rest : List ℕ) → ends_word rest ≡ true → contents_at (whole (text ++ rest)) ≡ Err fault) (λ fault. contents_at (whole text) ≡ Err fault)
    (λ fault is. ap (λ (bytes : List ℕ). contents_at (whole bytes)) (sym (append-nil text)) ∙ is [] refl) refused

-- before a blank
pub closed_goes_on : (p : Progress) (result : Result (Unit {0}) InputError) (text : List ℕ) (b : ℕ) → is_blank b ≡ true → HasClosed p.machine p.token result text → HasGoneOn p result (text ++ b ∷ [])
closed_goes_on p (Ok done) text b blank closed = blank_behind_all p.machine p.token text b blank closed.1 closed.0
closed_goes_on p (Err e) text b blank refused =
    IfSome-with (refusal_in e) (λ fault. (rest : List ℕ) → ends_word rest ≡ true → contents_at (whole (text ++ rest)) ≡ Err fault) (λ fault. (more : List ℕ) → contents_at (whole ((text ++ b ∷ []) ++ more)) ≡ Err fault)
    (λ fault is more. rw (append_assoc text (b ∷ []) more) (is (b ∷ more) blank)) refused

-- a token begins, where there is memory
pub begun_ok : {E : Type 0} (result : Result (Unit {0}) E) (m : Machine) (old new : CutToken) (text : List ℕ) (b place : ℕ) → has_no_byte old ≡ true → length text ≡ place → is_blank b ≡ false →
    IfOk result (λ _. IsCutToken new (record { place = place; bytes = b ∷ [] })) → IfOk result (λ _. has_no_byte new ≡ false) → HasTaken m old text → IfOk result (λ _. HasTaken m new (text ++ b ∷ []))
begun_ok (Ok done) m old new text b place none long solid known some so_far = token_begun m old new text b place solid none long some known so_far
begun_ok (Err e) m old new text b place none long solid known some so_far = tt

token_of : (c : CutToken) (place : ℕ) (cut : List ℕ) → IsCut c place cut → has_no_byte c ≡ false → (t : Token) × IsCutToken c t
token_of c place [] known some = absurd (true≢false (sym known ∙ some))
token_of c place (b ∷ bs) known some = (record { place = place; bytes = b ∷ bs }, known.1)

-- it goes on, where there is memory
pub grown_ok : {E : Type 0} (result : Result (Unit {0}) E) (m : Machine) (old new : CutToken) (text run : List ℕ) → has_no_byte old ≡ false → is_solid run ≡ true →
    ((t : Token) → IsCutToken old t → IfOk result (λ _. IsCutToken new (record { place = t.place; bytes = t.bytes ++ run }))) → ((t : Token) → IsCutToken old t → IfOk result (λ _. has_no_byte new ≡ false)) → HasTaken m old text → IfOk result (λ _. HasTaken m new (text ++ run))
grown_ok (Ok done) m old new text run some solid known more so_far =
    let token = token_of old (length so_far.front + length so_far.gap) so_far.cut so_far.known some in
    token_grown m old new text run solid some (more token.0 token.1) known so_far
grown_ok (Err e) m old new text run some solid known more so_far = tt

-- ---- the bytes before a blank

pub solid_front : (bytes : List ℕ) → is_solid (take (position_or_len is_blank bytes) bytes) ≡ true
solid_front [] = refl
solid_front (b ∷ bs) = ⊎_elim
    (λ (blank : is_blank b ≡ true). rw blank refl)
    (λ (solid : is_blank b ≡ false). rw (solid, one-add, solid) (solid_front bs))
    (cases_Bool (is_blank b))

pub blank_first : (bytes : List ℕ) → 0 < length bytes → position_or_len is_blank bytes ≡ 0 → is_blank (get_or bytes 0 0) ≡ true
blank_first [] some none = absurd (omega (arith, some))
blank_first (b ∷ bs) some none = ⊎_elim
    (λ (blank : is_blank b ≡ true). blank)
    (λ (solid : is_blank b ≡ false). absurd (let more = rw solid at none in omega (arith, more)))
    (cases_Bool (is_blank b))

-- or with it the token before it is refused
pub blank_refused : (p : Progress) (e : InputError) (text bytes : List ℕ) → 0 < length bytes → HasGoneOn p (Err e) (text ++ get_or bytes 0 0 ∷ []) → HasReadSome p (Err e) text bytes
blank_refused p e text [] some refused = absurd (omega (arith, some))
blank_refused p e text (b ∷ bs) some refused =
    IfSome-with (refusal_in e) (λ fault. (more : List ℕ) → contents_at (whole ((text ++ b ∷ []) ++ more)) ≡ Err fault) (λ fault. (more : List ℕ) → contents_at (whole ((text ++ b ∷ bs) ++ more)) ≡ Err fault)
    (λ fault is more. ap (λ (bytes : List ℕ). contents_at (whole bytes)) (append_assoc text (b ∷ bs) more ∙ sym (append_assoc text (b ∷ []) (bs ++ more))) ∙ is (bs ++ more)) refused

-- some more bytes of a piece were read
pub piece_goes_on : (p : Progress) (text piece : List ℕ) (at n : ℕ) → HasReached p ((text ++ take at piece) ++ take n (drop at piece)) → HasReached p (text ++ take (at + n) piece)
piece_goes_on p text piece at n reached =
    let more : (text ++ take at piece) ++ take n (drop at piece) ≡ text ++ take (at + n) piece = append_assoc text (take at piece) (take n (drop at piece)) ∙ ap (λ (bytes : List ℕ). text ++ bytes) (sym (take-add at n piece)) in
    subst (λ (bytes : List ℕ). HasReached p bytes) more reached

-- a piece is refused with some of its bytes
pub piece_refused : (p : Progress) (e : InputError) (text piece : List ℕ) (at : ℕ) → HasReadSome p (Err e) (text ++ take at piece) (drop at piece) → HasGoneOn p (Err e) (text ++ piece)
piece_refused p e text piece at refused =
    let all : (text ++ take at piece) ++ drop at piece ≡ text ++ piece = append_assoc text (take at piece) (drop at piece) ∙ ap (λ (bytes : List ℕ). text ++ bytes) (take-append-drop at piece) in
    subst (λ (bytes : List ℕ). HasGoneOn p (Err e) bytes) all refused

-- how many bytes were read then
pub length_so_far : (text piece : List ℕ) (at start : ℕ) → length text ≡ start → at ≤ length piece → length (text ++ take at piece) ≡ start + at
length_so_far text piece at start long within = omega (arith, long, within, length-append text (take at piece), length-take at piece)

-- ---- bytes of which none is a blank

pub solid_first : (bytes : List ℕ) → 0 < length bytes → is_solid bytes ≡ true → is_blank (get_or bytes 0 0) ≡ false
solid_first [] some solid = absurd (omega (arith, some))
solid_first (b ∷ bs) some solid = not-true (is_blank b) (and_parts (not (is_blank b)) (is_solid bs) solid).0

pub solid_rest : (bytes : List ℕ) → 0 < length bytes → is_solid bytes ≡ true → is_solid (drop 1 bytes) ≡ true
solid_rest [] some solid = absurd (omega (arith, some))
solid_rest (b ∷ bs) some solid = (and_parts (not (is_blank b)) (is_solid bs) solid).1

pub first_and_rest : (text bytes : List ℕ) → 0 < length bytes → (text ++ get_or bytes 0 0 ∷ []) ++ drop 1 bytes ≡ text ++ bytes
first_and_rest text [] some = absurd (omega (arith, some))
first_and_rest text (b ∷ bs) some = append_assoc text (b ∷ []) bs

-- the bytes from a place on
pub bytes_from : (at : ℕ) (bytes : List ℕ) → take (length bytes - at) (drop at bytes) ≡ drop at bytes
bytes_from at bytes = take_all (length bytes - at) (drop at bytes) (omega (arith, length-drop at bytes))
