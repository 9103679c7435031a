-- Reading a text part by part, whatever is taken for what is left of it, and over any kind of refusal.
use Rattle.std.specs.Prelude.{◌≡◌, ℕ, zero, suc, ◌+◌, List, [], ◌∷◌, Option, Some, None, IfSome, Result, Ok, Err}

-- what reading a part answers: its value and what is left behind it, or its refusal
abbrev pub Read : Type 0 → Type 0 → Type 0 → Type 0
Read Left Refusal Value = Result (Value × Left) Refusal

-- the one part, and then the other; the first refusal is the answer
infixl 10 ◌>>=◌
abbrev pub ◌>>=◌ : {A B F : Type 0} → Result A F → (A → Result B F) → Result B F
(Ok x) >>= f = f x
(Err refusal) >>= f = Err refusal

-- the value where there is one, else the refusal
abbrev pub or_refuse : {A F : Type 0} → Option A → F → Result A F
or_refuse (Some x) refusal = Ok x
or_refuse None refusal = Err refusal

-- the same answer, with its refusal in other words
abbrev pub refused_as : {A F G : Type 0} → (F → G) → Result A F → Result A G
refused_as other (Ok x) = Ok x
refused_as other (Err refusal) = Err (other refusal)

-- so many parts one after another, of which the first has this number
abbrev pub parts_at : {A L F : Type 0} → (ℕ → L → Read L F A) → ℕ → ℕ → L → Read L F (List A)
parts_at part number zero left = Ok ([], left)
parts_at part number (suc n) left = do
  one ← part number left
  more ← parts_at part (number + 1) n one.1
  Ok (one.0 ∷ more.0, more.1)

-- the refusal that an error says is what reading gives; an error that says none, as want of memory, is free
abbrev pub Refuses : {E F Y : Type 0} → (E → Option F) → E → Result Y F → Type 0
Refuses refusal_of e read = IfSome (refusal_of e) (λ refusal. read ≡ Err refusal)

-- what a call answered, seen by view, is what reading a part gives, and this is what is left then
abbrev pub IsReadAs : {E F X Y L : Type 0} → (E → Option F) → (X → Y) → Result X E → L → Read L F Y → Type 0
IsReadAs refusal_of view (Ok x) left read = read ≡ Ok (view x, left)
IsReadAs refusal_of view (Err e) left read = Refuses refusal_of e read
