-- What belongs together in groups of numbers.
use Rattle.std.specs.Prelude.{ℕ, ◌≡◌, ◌<◌, ◌⊎◌, List, length, slice_index}

-- links between numbers, followed both ways and one after another
pub data AreJoined (Link : ℕ → ℕ → Type 0) : ℕ → ℕ → Type 0 where
  link : {i j : ℕ} → Link i j → AreJoined Link i j
  back : {i j : ℕ} → AreJoined Link i j → AreJoined Link j i
  on : {i j k : ℕ} → AreJoined Link i j → AreJoined Link j k → AreJoined Link i k

-- a number and its parent
abbrev pub IsParent : List ℕ → ℕ → ℕ → Type 0
IsParent parents i j = (i < length parents) × (slice_index parents i ≡ j)

-- the same, or these two
abbrev pub IsParentOr : List ℕ → ℕ → ℕ → ℕ → ℕ → Type 0
IsParentOr parents one other i j = IsParent parents i j ⊎ ((i ≡ one) × (j ≡ other))

-- links lead from each number to its parent
abbrev pub AreJoinedBy : (ℕ → ℕ → Type 0) → List ℕ → Type 0
AreJoinedBy Link parents = (i : ℕ) → i < length parents → AreJoined Link i (slice_index parents i)
