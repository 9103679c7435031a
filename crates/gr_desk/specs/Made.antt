-- Which names a store of files made, in order.
use Rattle.std.specs.Prelude.{ℕ, List, [], ◌∷◌, ◌++◌, Result, OnOk, OnErr}

-- the names that were made before are those made afterwards
abbrev pub KeepsNames : {S : Type 0} → (S → List (List ℕ) → Type 0) → S → S → Type 0
KeepsNames made before after = (names : List (List ℕ)) → made before names → made after names

-- a create: where it is Ok its name was made after the others, and no other was; where it failed none was
pub record MakesName {S T E : Type 0} (made : S → List (List ℕ) → Type 0) (before after : S) (name : List ℕ) (result : Result T E) : Type 0 where
  pub ok : OnOk result ((names : List (List ℕ)) → made before names → made after (names ++ (name ∷ [])))
  pub err : OnErr result (KeepsNames made before after)
