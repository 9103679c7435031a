-- Lists by their places.
use Rattle.std.specs.Prelude.{ℕ, ◌≡◌, List, slice_get, Some}

-- x stands at the place i of the list
abbrev pub At : {X : Type 0} → List X → ℕ → X → Type 0
At xs i x = slice_get xs i ≡ Some x

-- no element stands at two places
abbrev pub HasNoRepeats : {X : Type 0} → List X → Type 0
HasNoRepeats {X} xs = (i j : ℕ) (x : X) → At xs i x → At xs j x → i ≡ j
