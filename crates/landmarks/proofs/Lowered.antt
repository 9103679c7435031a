-- Pieces with what they weigh beyond floors.
use Rattle.std.proofs.Common.{◌≡◌, ℕ, suc, ◌-◌, List, [], ◌∷◌, map, refl, sym, ap, subst, ◌∙◌, ⊎_elim, arith}
use Rattle.std.specs.List.{Contains}
use Rattle.grid_base.specs.declared.piece.Piece.{Piece}
use Rattle.grid_base.specs.declared.size.Size.{Size}
use Rattle.grid_base.specs.Lists.{HasNoRepeats}
use Rattle.grid_base.proofs.Lists.{head_or_rest}
use Rattle.grid_graph.specs.declared.floors.Floors.{Floors}
use Rattle.grid_graph.specs.Floors.{floor_of}
use Rattle.grid_graph.specs.Weighed.{Weighs, NoPieceTwice, WeighsOnlyPieces, AreWithinLimit}
use Rattle.edge_prices.specs.PieceLists.{IsWeightList}
use Rattle.landmarks.specs.Numbers.{lowered}

-- what was mapped
pub record IsFrom (f : Piece × ℕ → Piece × ℕ) (xs : List (Piece × ℕ)) (y : Piece × ℕ) : Type 0 where
  pub from : Piece × ℕ
  pub listed : Contains xs from
  pub is : f from ≡ y

pub from_map : (f : Piece × ℕ → Piece × ℕ) (xs : List (Piece × ℕ)) (y : Piece × ℕ) → Contains (map f xs) y → IsFrom f xs y
from_map f [] y at = absurd (omega (arith, at.1))
from_map f (x ∷ xs) y at = ⊎_elim
    (λ here. record { from = x; listed = (0, omega arith, refl); is = sym here })
    (λ rest. let old = from_map f xs y rest in record { from = old.from; listed = (suc old.listed.0, omega (arith, old.listed.1), old.listed.2); is = old.is })
    (head_or_rest (f x) (map f xs) y at)

pub into_map : (f : Piece × ℕ → Piece × ℕ) (xs : List (Piece × ℕ)) (x : Piece × ℕ) → Contains xs x → Contains (map f xs) (f x)
into_map f [] x at = absurd (omega (arith, at.1))
into_map f (y ∷ xs) x at = ⊎_elim
    (λ here. (0, omega arith, ap f (sym here)))
    (λ rest. let old = into_map f xs x rest in (suc old.0, omega (arith, old.1), old.2))
    (head_or_rest y xs x at)

-- a list of one piece has no other
pub only_one : (x y : Piece × ℕ) → Contains (x ∷ []) y → y ≡ x
only_one x y at = ⊎_elim (λ here. here) (λ rest. absurd (omega (arith, rest.1))) (head_or_rest x [] y at)

-- a lowered piece is one of the pieces
pub record IsLowered (pieces : List (Piece × ℕ)) (floors : Floors) (p : Piece) (k : ℕ) : Type 0 where
  pub before : ℕ
  pub weighs : Weighs pieces p before
  pub less : k ≡ before - floor_of floors p

pub lowered_from : (pieces : List (Piece × ℕ)) (floors : Floors) (p : Piece) (k : ℕ) → Weighs (lowered pieces floors) p k
    → IsLowered pieces floors p k
lowered_from pieces floors p k at =
    let old = from_map (λ x. (x.0, x.1 - floor_of floors x.0)) pieces (p, k) at in
    let same : old.from.0 ≡ p = ap (λ (y : Piece × ℕ). y.0) old.is in
    record {
      before = old.from.1;
      weighs = subst (λ q. Weighs pieces q old.from.1) same old.listed;
      less = sym (ap (λ (y : Piece × ℕ). y.1) old.is) ∙ ap (λ q. old.from.1 - floor_of floors q) same;
    }

pub lowered_into : (pieces : List (Piece × ℕ)) (floors : Floors) (p : Piece) (k : ℕ) → Weighs pieces p k
    → Weighs (lowered pieces floors) p (k - floor_of floors p)
lowered_into pieces floors p k at = into_map (λ x. (x.0, x.1 - floor_of floors x.0)) pieces (p, k) at

same_pieces : (pieces : List (Piece × ℕ)) (floors : Floors) → map (λ x. x.0) (lowered pieces floors) ≡ map (λ x. x.0) pieces
same_pieces [] floors = refl
same_pieces (x ∷ pieces) floors = ap (λ ps. x.0 ∷ ps) (same_pieces pieces floors)

pub lowered_list : (s : Size) (pieces : List (Piece × ℕ)) (floors : Floors) → NoPieceTwice pieces → WeighsOnlyPieces s pieces
    → AreWithinLimit pieces → IsWeightList s (lowered pieces floors)
lowered_list s pieces floors once inside small = record {
  once = subst HasNoRepeats (sym (same_pieces pieces floors)) once;
  inside = λ p at. let old = lowered_from pieces floors p at.0 at.1 in inside p (old.before, old.weighs);
  within = λ p k at. let old = lowered_from pieces floors p k at in omega (arith, old.less, small p old.before old.weighs);
}
