-- What stays joined where numbers get other parents.
use Rattle.std.proofs.Common.{◌≡◌, ◌≢◌, ℕ, ◌<◌, ◌≤◌, min, max, List, length, slice_index, slice_set, refl, sym, subst, inl, inr, ⊎_elim, arith}
use Rattle.std.proofs.lemmas.Bool.{cases_eq, cases_lt}
use Rattle.std.proofs.lemmas.List.{get_or-set_same, get_or-set_other, length-set}
use Rattle.groups.specs.Joined.{AreJoined, AreJoinedBy, IsParent, IsParentOr}
use Rattle.groups.specs.Joined.AreJoined.{link, back, on}

-- what all links have, and that is symmetric and transitive, all that is joined has
pub joined-all : (R Link : ℕ → ℕ → Type 0) → ((i j : ℕ) → R i j → R j i) → ((i j k : ℕ) → R i j → R j k → R i k)
    → ((i j : ℕ) → Link i j → R i j) → (i j : ℕ) → AreJoined Link i j → R i j
joined-all R Link turn go each i j (link is) = each i j is
joined-all R Link turn go each i j (back is) = turn j i (joined-all R Link turn go each j i is)
joined-all R Link turn go each i j (on {j = m} one other) =
    go i m j (joined-all R Link turn go each i m one) (joined-all R Link turn go each m j other)

-- each number is joined to its parent
pub to_parent : (parents : List ℕ) → AreJoinedBy (IsParent parents) parents
to_parent parents i within = link (within, refl)

-- more links
pub with_pair : (parents : List ℕ) (one other i j : ℕ) → AreJoined (IsParent parents) i j → AreJoined (IsParentOr parents one other) i j
with_pair parents one other = joined-all (AreJoined (IsParentOr parents one other)) (IsParent parents)
    (λ i j is. back is) (λ i j k a b. on a b) (λ i j is. link (inl is))

-- links of parents that were joined before
pub joined_before : (Link : ℕ → ℕ → Type 0) (parents : List ℕ) → AreJoinedBy Link parents → (i j : ℕ) → AreJoined (IsParent parents) i j → AreJoined Link i j
joined_before Link parents joined = joined-all (AreJoined Link) (IsParent parents)
    (λ i j is. back is) (λ i j k a b. on a b) (λ i j is. subst (AreJoined Link i) is.1 (joined i is.0))

module _ (Link : ℕ → ℕ → Type 0) (parents : List ℕ) (joined : AreJoinedBy Link parents) where
  -- a number is joined to itself
  pub to_itself : (i : ℕ) → i < length parents → AreJoined Link i i
  to_itself i within = on (joined i within) (back (joined i within))

  -- and to the parent of its parent
  pub two_up : (i far : ℕ) → i < length parents → slice_index parents i < length parents
      → far ≡ slice_index parents (slice_index parents i) → AreJoined Link i far
  two_up i far within inside at_far = subst (AreJoined Link i) (sym at_far) (on (joined i within) (joined (slice_index parents i) inside))

  -- another parent
  pub with_parent : (i up : ℕ) → i < length parents → AreJoined Link i up → AreJoinedBy Link (slice_set parents i up)
  with_parent i up inside holds k within = ⊎_elim
      (λ (here : k ≡ i). rw (here, get_or-set_same parents i up 0 inside) holds)
      (λ (other : k ≢ i). rw (get_or-set_other parents i k up 0 other) (joined k (omega (arith, within, length-set parents i up))))
      (cases_eq k i)

-- from the greater of two to the lesser
pub down_between : (Link : ℕ → ℕ → Type 0) (a b : ℕ) → AreJoined Link a b → AreJoined Link (max a b) (min a b)
down_between Link a b holds = ⊎_elim
    (λ (up : a < b).
    let high : max a b ≡ b = omega arith in
    let low : min a b ≡ a = omega arith in
    rw (high, low) (back holds))
    (λ (down : b ≤ a).
    let high : max a b ≡ a = omega arith in
    let low : min a b ≡ b = omega arith in
    rw (high, low) holds)
    (cases_lt a b)
