-- What a reader that is fed has answered, and what that says of the text.
use Rattle.std.proofs.Common.{◌≡◌, ◌≢◌, ◌⊎◌, ◌↔◌, ℕ, ◌+◌, ◌<◌, ◌≤◌, Bool, true, false, not, nat_lt, List, [], ◌∷◌, ◌++◌, length, Option, Some, None, Result, Ok, Err, refl, sym, ap, ◌∙◌, arith, inl, inr, true≢false, lt-ltb, ltb-true, append_assoc, length-append}
use Rattle.std.specs.List.{list_all}
use Rattle.std.specs.Prelude.{IfSome, IfOk, IfErr, is_ok}
use Rattle.std.specs.Result.{result_err}
use Rattle.std.proofs.lemmas.Bool.{and_parts, not-true, ltb-false}
use Rattle.std.proofs.lemmas.List.{append-nil}
use Rattle.grid_graph.specs.declared.design.Design.{Design}
use Rattle.text_scan.specs.Tokens.{is_blank, tokens_from}
use Rattle.text_scan.specs.Reading.{whole, tokens_left}
use Rattle.design_tokens.specs.declared.input_error.InputError.{InputError}
use Rattle.design_tokens.specs.declared.input_error.InputError.TheVariants.{Input, NoMemory}
use Rattle.design_tokens.specs.declared.input_fault.InputFault.{InputFault}
use Rattle.design_tokens.specs.declared.input_fault.InputFault.TheVariants.{TooLong, Syntax}
use Rattle.ispd_reader.specs.declared.machine.Machine.{Machine}
use Rattle.ispd_reader.specs.declared.progress.Progress.{Progress}
use Rattle.design_tokens.specs.declared.wanted.Wanted.{Wanted}
use Rattle.ispd_reader.specs.Designs.{Contents, contents_at, contents_of, IsDesignOf, IsDesignOfText}
use Rattle.ispd_reader.specs.Limits.{max_bytes}
use Rattle.ispd_reader.specs.MachineLeft.{left_of, AtEnd}
use Rattle.design_tokens.specs.Parsing.{Reading, refusal_in, Refuses}
use Rattle.ispd_reader.specs.Readers.{RefusesAll, EndsInBlank, HasReached, HasGoneOn, IsOver, IsAnswered}
use Rattle.ispd_reader.proofs.MachineEnds.{at_end}
use Rattle.ispd_reader.proofs.NeverTooLong.{says_too_long, never_too_long}
use Rattle.ispd_reader.proofs.Pieces.{behind, IfSome-with, tokens_behind}
use Rattle.ispd_reader.proofs.Whole.{short_text}

abbrev fault_or : InputFault → Result (Unit {0}) InputError → InputFault
fault_or other (Ok done) = other
fault_or other (Err NoMemory) = other
fault_or other (Err (Input fault)) = fault

abbrev refusal_or : {A : Type 0} → InputFault → Result A InputFault → InputFault
refusal_or other (Ok x) = other
refusal_or other (Err fault) = fault

abbrev place_of : InputFault → ℕ
place_of (Syntax at wanted) = at
place_of _ = 0

same_refusal : {A : Type 0} (f g : InputFault) → ◌≡◌ {A = Result A InputFault} (Err f) (Err g) → f ≡ g
same_refusal f g h = ap (refusal_or f) h

-- ---- what is answered of a piece

-- the piece was read, or refused
pub answers_what_was_read : (p : Progress) (result : Result (Unit {0}) InputError) (text : List ℕ) → length text ≤ max_bytes → HasGoneOn p result text → IsAnswered (result_err result) p text
answers_what_was_read p (Ok done) text short reached = (short, reached)
answers_what_was_read p (Err NoMemory) text short refused = tt
answers_what_was_read p (Err (Input fault)) text short refused =
    let other : says_too_long fault ≡ false = never_too_long (whole (text ++ [])) fault (refused []) in (
      (λ is. absurd (true≢false (sym (ap says_too_long is) ∙ other)), λ long. absurd (omega (arith, short, long))),
      λ more within. short_text (text ++ more) within ∙ refused more,
    )

-- ---- what an answer says

pub answer_refuses : (result : Result (Unit {0}) InputError) (p : Progress) (text : List ℕ) → IsAnswered (result_err result) p text → IfErr result (λ e. IfSome (refusal_in e) (RefusesAll text))
answer_refuses (Ok done) p text is = tt
answer_refuses (Err NoMemory) p text is = tt
answer_refuses (Err (Input fault)) p text is = is.1

pub answer_tells_length : (result : Result (Unit {0}) InputError) (p : Progress) (text : List ℕ) → IsAnswered (result_err result) p text → result ≢ Err NoMemory → (result ≡ Err (Input TooLong)) ↔ (max_bytes < length text)
answer_tells_length (Ok done) p text is memory = (λ h. absurd (true≢false (ap is_ok h)), λ long. absurd (omega (arith, is.0, long)))
answer_tells_length (Err NoMemory) p text is memory = absurd (memory refl)
answer_tells_length (Err (Input fault)) p text is memory = (λ h. is.0.0 (ap (fault_or fault) h), λ long. ap (λ (f : InputFault). Err (Input f)) (is.0.1 long))

refused_now : (text : List ℕ) (fault : InputFault) → RefusesAll text fault → length text ≤ max_bytes → contents_of text ≡ Err fault
refused_now text fault refuses short =
    let same : text ++ [] ≡ text = append-nil text in
    ap contents_of (sym same) ∙ refuses [] (omega (arith, short, length-append text []))

long_text : (text : List ℕ) → max_bytes < length text → contents_of text ≡ Err TooLong
long_text text long = let t : nat_lt max_bytes (length text) ≡ true = lt-ltb max_bytes (length text) long in rw t refl

-- an answer refuses the text so far
pub answer_stands : (e : InputError) (p : Progress) (text : List ℕ) → IsAnswered (Some e) p text → Refuses refusal_in e (contents_of text)
answer_stands NoMemory p text is = tt
answer_stands (Input fault) p text is = at (nat_lt max_bytes (length text)) refl
  where
    at : (b : Bool) → nat_lt max_bytes (length text) ≡ b → contents_of text ≡ Err fault
    at true over = let long : max_bytes < length text = ltb-true max_bytes (length text) over in
        long_text text long ∙ ap (λ (f : InputFault). Err f) (sym (is.0.1 long))
    at false under = refused_now text fault is.1 (ltb-false max_bytes (length text) under)

-- ---- where the last byte is a blank

abbrev last_of : ℕ → List ℕ → ℕ
last_of b [] = b
last_of b (x ∷ xs) = last_of x xs

last_behind : (xs : List ℕ) (b y : ℕ) (ys : List ℕ) → last_of b (xs ++ y ∷ ys) ≡ last_of y ys
last_behind [] b y ys = refl
last_behind (x ∷ xs) b y ys = last_behind xs x y ys

last_passes : (test : ℕ → Bool) (y : ℕ) (ys : List ℕ) → list_all test (y ∷ ys) ≡ true → test (last_of y ys) ≡ true
last_passes test y [] all = (and_parts (test y) true all).0
last_passes test y (x ∷ xs) all = last_passes test x xs (and_parts (test y) (list_all test (x ∷ xs)) all).1

no_cut : (text front gap cut : List ℕ) → text ≡ front ++ (gap ++ cut) → list_all (λ b. not (is_blank b)) cut ≡ true → EndsInBlank text → cut ≡ []
no_cut text front gap [] parts word ends = refl
no_cut text front gap (c ∷ cs) parts word ends =
    let last : last_of 0 text ≡ last_of c cs = ap (λ (bytes : List ℕ). last_of 0 bytes) (parts ∙ sym (append_assoc front gap (c ∷ cs))) ∙ last_behind (front ++ gap) 0 c cs in
    let same : last_of 0 text ≡ ends.blank = ap (λ (bytes : List ℕ). last_of 0 bytes) ends.parts ∙ last_behind ends.front 0 ends.blank [] in
    let solid : is_blank (last_of c cs) ≡ false = not-true (is_blank (last_of c cs)) (last_passes (λ b. not (is_blank b)) c cs word) in
    absurd (true≢false (sym ends.is ∙ ap is_blank (sym same ∙ last) ∙ solid))

two_ends : (o : Option Wanted) (left : Reading → Result Contents InputFault) (r s : Reading) (fault : InputFault) → AtEnd o left → tokens_left r ≡ [] → tokens_left s ≡ [] → length s.text ≡ length r.text + 1 →
    left r ≡ Err fault → left s ≡ Err fault → ⊥
two_ends None left r s fault ended none too longer one two = true≢false (ap is_ok (sym (ended.1 r none) ∙ one))
two_ends (Some wanted) left r s fault ended none too longer one two =
    let first : Syntax (length r.text) wanted ≡ fault = same_refusal (Syntax (length r.text) wanted) fault (sym (ended r none) ∙ one) in
    let second : Syntax (length s.text) wanted ≡ fault = same_refusal (Syntax (length s.text) wanted) fault (sym (ended s too) ∙ two) in
    let same : length r.text ≡ length s.text = ap place_of (first ∙ sym second) in
    omega (arith, same, longer)

-- then a text that wasn't refused is not refused with all that begin so
not_settled : (p : Progress) (text : List ℕ) (fault : InputFault) → HasReached p text → length text < max_bytes → EndsInBlank text → RefusesAll text fault → ⊥
not_settled p text fault so_far short ends refuses =
    let bare : so_far.cut ≡ [] = no_cut text so_far.front so_far.gap so_far.cut so_far.parts so_far.word ends in
    let none : (rest : List ℕ) → tokens_left (behind text rest so_far.front) ≡ tokens_from (length so_far.front + length so_far.gap) rest =
    λ rest. tokens_behind text rest so_far.front so_far.gap so_far.cut so_far.parts so_far.blank ∙ ap (λ (bytes : List ℕ). tokens_from (length so_far.front + length so_far.gap) (bytes ++ rest)) bare in
    let refused : (rest : List ℕ) → length (text ++ rest) ≤ max_bytes → left_of p.machine so_far.made (behind text rest so_far.front) ≡ Err fault =
    λ rest within. sym (so_far.says rest) ∙ sym (short_text (text ++ rest) within) ∙ refuses rest within in
    let ending = at_end p.machine so_far.made so_far.stands in
    two_ends ending.0 (left_of p.machine so_far.made) (behind text [] so_far.front) (behind text (32 ∷ []) so_far.front) fault ending.1
    (none []) (none (32 ∷ [])) (omega (arith, length-append text [], length-append text (32 ∷ [])))
    (refused [] (omega (arith, short, length-append text []))) (refused (32 ∷ []) (omega (arith, short, length-append text (32 ∷ []))))

pub answer_settles : (result : Result (Unit {0}) InputError) (p : Progress) (text : List ℕ) (fault : InputFault) → IsAnswered (result_err result) p text → length text < max_bytes → EndsInBlank text → RefusesAll text fault →
    (result ≡ Err NoMemory) ⊎ (result ≡ Err (Input fault))
answer_settles (Ok done) p text fault is short ends refuses = absurd (not_settled p text fault is.1 short ends refuses)
answer_settles (Err NoMemory) p text fault is short ends refuses = inl refl
answer_settles (Err (Input found)) p text fault is short ends refuses =
    let within : length text ≤ max_bytes = omega (arith, short) in
    inr (ap (λ (f : InputFault). Err (Input f)) (same_refusal found fault (sym (refused_now text found is.1 within) ∙ refused_now text fault refuses within)))

-- ---- the end

-- the machine's design is that of the text
pub over_design : (m : Machine) (text : List ℕ) (over : IsOver m text) (result : Result Design InputError) →
    IfOk result (λ d. (c : Contents) × IsDesignOf d c × ((r : Reading) → tokens_left r ≡ [] → left_of m over.made r ≡ Ok c)) → IfOk result (λ d. (c : Contents) × IsDesignOf d c × (contents_at (whole text) ≡ Ok c))
over_design m text over (Ok d) is = (is.0, is.1, over.says ∙ is.2 over.reading over.none)
over_design m text over (Err e) is = tt

-- and its refusal
pub over_refusal : (m : Machine) (text : List ℕ) (bytes : ℕ) (over : IsOver m text) (result : Result Design InputError) → length text ≡ bytes →
    IfErr result (λ e. IfSome (refusal_in e) (λ fault. (r : Reading) → tokens_left r ≡ [] → length r.text ≡ bytes → left_of m over.made r ≡ Err fault)) → IfErr result (λ e. Refuses refusal_in e (contents_at (whole text)))
over_refusal m text bytes over (Ok d) long is = tt
over_refusal m text bytes over (Err e) long is =
    IfSome-with (refusal_in e) (λ fault. (r : Reading) → tokens_left r ≡ [] → length r.text ≡ bytes → left_of m over.made r ≡ Err fault) (λ fault. contents_at (whole text) ≡ Err fault)
    (λ fault refused. over.says ∙ refused over.reading over.none (over.long ∙ long)) is

-- the same of a text that is not too long
pub text_design : (result : Result Design InputError) (text : List ℕ) → length text ≤ max_bytes →
    IfOk result (λ d. (c : Contents) × IsDesignOf d c × (contents_at (whole text) ≡ Ok c)) → IfOk result (λ d. IsDesignOfText text d)
text_design (Ok d) text short is = record { contents = is.0; read = short_text text short ∙ is.2; says = is.1 }
text_design (Err e) text short is = tt

pub text_refusal : (result : Result Design InputError) (text : List ℕ) → length text ≤ max_bytes → IfErr result (λ e. Refuses refusal_in e (contents_at (whole text))) → IfErr result (λ e. Refuses refusal_in e (contents_of text))
text_refusal (Ok d) text short is = tt
text_refusal (Err e) text short is = rw (short_text text short) is
