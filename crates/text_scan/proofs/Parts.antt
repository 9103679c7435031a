-- Parts that are read one after another.
use Rattle.std.proofs.Common.{◌≡◌, Bool, true, false, cond, List, [], ◌∷◌, ◌++◌, Option, Some, None, Result, Ok, Err, refl, sym, ap, append_assoc}
use Rattle.std.specs.Prelude.{IfOk, IfSome}
use Rattle.text_scan.specs.Parts.{Read, ◌>>=◌, or_refuse, Refuses}

-- these parts, and then those that are read
abbrev pub with_parts : {A L F : Type 0} → List A → Read L F (List A) → Read L F (List A)
with_parts before (Ok read) = Ok (before ++ read.0, read.1)
with_parts before (Err refusal) = Err refusal

-- none yet
pub with_parts-none : {A L F : Type 0} (read : Read L F (List A)) → with_parts [] read ≡ read
with_parts-none (Ok read) = refl
with_parts-none (Err refusal) = refl

-- and one more
pub with_parts-one : {A L F : Type 0} (before : List A) (one : A) (more : Read L F (List A)) →
    with_parts before (more >>= λ more. Ok (one ∷ more.0, more.1)) ≡ with_parts (before ++ one ∷ []) more
with_parts-one {A} before one (Ok read) = ap (λ (xs : List A). Ok (xs, read.1)) (sym (append_assoc before (one ∷ []) read.0))
with_parts-one before one (Err refusal) = refl

-- what was read is one part and what follows it
pub parts_of_ok : {A B F : Type 0} (read : Result A F) (f : A → Result B F) (y : B) → (read >>= f) ≡ Ok y → (x : A) × (read ≡ Ok x) × (f x ≡ Ok y)
parts_of_ok (Ok x) f y h = (x, refl, h)
parts_of_ok (Err refusal) f y h = absurd (cc)

-- a value that wasn't refused is there
pub some_of_ok : {A F : Type 0} (o : Option A) (refusal : F) (x : A) → or_refuse o refusal ≡ Ok x → o ≡ Some x
some_of_ok (Some y) refusal x h = let e : y ≡ x = cc in ap (λ z. Some z) e
some_of_ok None refusal x h = absurd (cc)

abbrev value_or : {A L F : Type 0} → A → Read L F A → A
value_or other (Ok p) = p.0
value_or other (Err refusal) = other

-- equal answers have equal values
pub same_value : {A L F : Type 0} (x y : A) (s t : L) → ◌≡◌ {A = Result (A × L) F} (Ok (x, s)) (Ok (y, t)) → x ≡ y
same_value x y s t h = ap (value_or x) h

refused_too : {F X Y : Type 0} (o : Option F) (one : Result X F) (two : Result Y F) → ((refusal : F) → one ≡ Err refusal → two ≡ Err refusal) → IfSome o (λ refusal. one ≡ Err refusal) → IfSome o (λ refusal. two ≡ Err refusal)
refused_too None one two so refused = tt
refused_too (Some refusal) one two so refused = so refusal refused

-- an error that refuses one part refuses what is refused with it
pub Refuses-with : {E F X Y : Type 0} (refusal_of : E → Option F) (e : E) (one : Result X F) (two : Result Y F) →
    ((refusal : F) → one ≡ Err refusal → two ≡ Err refusal) → Refuses refusal_of e one → Refuses refusal_of e two
Refuses-with refusal_of e one two so refused = refused_too (refusal_of e) one two so refused

-- ---- what holds of the values that are read

-- of the one part and then of the other
pub IfOk-then : {A B F : Type 0} (P : A → Type 0) (Q : B → Type 0) (read : Result A F) (f : A → Result B F) → IfOk read P → ((x : A) → P x → IfOk (f x) Q) → IfOk (read >>= f) Q
IfOk-then P Q (Ok x) f one two = two x one
IfOk-then P Q (Err refusal) f one two = tt

-- of the other, whatever the one is
pub IfOk-behind : {A B F : Type 0} (Q : B → Type 0) (read : Result A F) (f : A → Result B F) → ((x : A) → IfOk (f x) Q) → IfOk (read >>= f) Q
IfOk-behind Q (Ok x) f two = two x
IfOk-behind Q (Err refusal) f two = tt

-- where a test may refuse it
pub IfOk-where_false : {A F : Type 0} (P : A → Type 0) (b : Bool) (read : Result A F) (refusal : F) → IfOk read P → IfOk (cond b (Err refusal) read) P
IfOk-where_false P true read refusal h = tt
IfOk-where_false P false read refusal h = h
