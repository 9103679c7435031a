-- Vertices that stand for others.
use Rattle.std.proofs.Common.{◌≡◌, ℕ, ◌<◌, List, length, slice_index, sym, subst, ◌∙◌, ⊎_elim, arith}
use Rattle.grid_base.specs.declared.piece.Piece.{Piece}
use Rattle.grid_base.specs.declared.size.Size.{Size}
use Rattle.grid_base.specs.Numbers.{vertices}
use Rattle.grid_base.specs.Walks.{WalkBetween}
use Rattle.grid_base.proofs.Walks.{WalkBetween-refl, WalkBetween-sym, WalkBetween-trans}
use Rattle.groups.specs.Joined.{AreJoinedBy, IsParent, IsParentOr}
use Rattle.groups.proofs.Parents.{joined-all}
use Rattle.lower_bound.specs.Representatives.{IsFree, AreRepresentatives}

-- each vertex stands for itself
pub own_representatives : (s : Size) (pieces : List (Piece × ℕ)) (of : List ℕ) → length of ≡ vertices s → ((v : ℕ) → v < length of → slice_index of v ≡ v) → AreRepresentatives s pieces of
own_representatives s pieces of long own = record {
  long = long;
  leads = λ v vertex. subst (WalkBetween s (IsFree pieces) v) (sym (own v (omega (arith, vertex, long)))) (WalkBetween-refl s (IsFree pieces) v vertex);
}

module _ (s : Size) (pieces : List (Piece × ℕ)) where
  -- a walk without weight leads between two vertices
  abbrev pub Free : ℕ → ℕ → Type 0
  Free = WalkBetween s (IsFree pieces)

  -- what is joined by links that have such walks stands for itself again
  pub joined_freely : (Link : ℕ → ℕ → Type 0) (old new : List ℕ) → AreRepresentatives s pieces old → length new ≡ length old
      → ((i j : ℕ) → Link i j → Free i j) → AreJoinedBy Link new → AreRepresentatives s pieces new
  joined_freely Link old new are long each joined = record {
    long = long ∙ are.long;
    leads = λ v vertex. joined-all Free Link (WalkBetween-sym s (IsFree pieces)) (WalkBetween-trans s (IsFree pieces)) each v (slice_index new v)
        (joined v (omega (arith, vertex, long, are.long)));
  }

  pub free_up : (old : List ℕ) → AreRepresentatives s pieces old → (i j : ℕ) → IsParent old i j → Free i j
  free_up old are i j is = subst (Free i) is.1 (are.leads i (omega (arith, is.0, are.long)))

  pub free_up_or : (old : List ℕ) (one other : ℕ) → AreRepresentatives s pieces old → Free one other → (i j : ℕ) → IsParentOr old one other i j → Free i j
  free_up_or old one other are walk i j is = ⊎_elim (free_up old are i j)
      (λ (here : (i ≡ one) × (j ≡ other)). subst (λ n. Free n j) (sym here.0) (subst (Free one) (sym here.1) walk)) is
