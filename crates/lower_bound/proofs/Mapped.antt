-- Pieces with other weights.
use Rattle.std.proofs.Common.{◌≡◌, ℕ, ◌+◌, ◌≤◌, List, [], ◌∷◌, map, refl, sym, ap, subst, arith}
use Rattle.grid_base.specs.declared.axis.Axis.{Axis}
use Rattle.grid_base.specs.declared.axis.Axis.TheVariants.{X, Y}
use Rattle.grid_base.specs.declared.piece.Piece.{Piece}
use Rattle.grid_base.specs.declared.piece.Piece.TheVariants.{Edge, Via}
use Rattle.grid_base.specs.declared.size.Size.{Size}
use Rattle.grid_base.specs.Lists.{HasNoRepeats}
use Rattle.grid_base.specs.Numbers.{edge_axis}
use Rattle.grid_graph.specs.Flat.{AreLeastOver}
use Rattle.grid_graph.specs.Floors.{floor_along, floor_of, AreFloors}
use Rattle.grid_graph.specs.Limits.{max_weight}
use Rattle.grid_graph.specs.Weighed.{Weighs, NoPieceTwice, WeighsOnlyPieces}
use Rattle.landmarks.proofs.Lowered.{from_map, into_map}
use Rattle.edge_prices.specs.Limits.{max_price}
use Rattle.edge_prices.specs.PieceLists.{IsWeightList}
use Rattle.lower_bound.specs.Raised.{raised, MayBeRaised}

-- a raised piece is one of the pieces
pub record IsRaised (pieces : List (Piece × ℕ)) (extra : ℕ) (p : Piece) (k : ℕ) : Type 0 where
  pub before : ℕ
  pub weighs : Weighs pieces p before
  pub sum : k ≡ before + extra

pub raised_from : (pieces : List (Piece × ℕ)) (extra : ℕ) (p : Piece) (k : ℕ) → Weighs (raised pieces extra) p k → IsRaised pieces extra p k
raised_from pieces extra p k at =
    let old = from_map (λ x. (x.0, x.1 + extra)) pieces (p, k) at in
    record {
      before = old.from.1;
      weighs = subst (λ q. Weighs pieces q old.from.1) (ap (λ (y : Piece × ℕ). y.0) old.is) old.listed;
      sum = sym (ap (λ (y : Piece × ℕ). y.1) old.is);
    }

pub raised_into : (pieces : List (Piece × ℕ)) (extra : ℕ) (p : Piece) (k : ℕ) → Weighs pieces p k → Weighs (raised pieces extra) p (k + extra)
raised_into pieces extra p k at = into_map (λ x. (x.0, x.1 + extra)) pieces (p, k) at

same_pieces : (pieces : List (Piece × ℕ)) (extra : ℕ) → map (λ x. x.0) (raised pieces extra) ≡ map (λ x. x.0) pieces
same_pieces [] extra = refl
same_pieces (x ∷ pieces) extra = ap (λ ps. x.0 ∷ ps) (same_pieces pieces extra)

pub raised_list : (s : Size) (pieces : List (Piece × ℕ)) (extra : ℕ) → NoPieceTwice pieces → WeighsOnlyPieces s pieces → MayBeRaised pieces → extra ≤ max_price → IsWeightList s (raised pieces extra)
raised_list s pieces extra once inside may small = record {
  once = subst HasNoRepeats (sym (same_pieces pieces extra)) once;
  inside = λ p at. let old = raised_from pieces extra p at.0 at.1 in inside p (old.before, old.weighs);
  within = λ p k at. let old = raised_from pieces extra p k at in omega (arith, old.sum, may p old.before old.weighs, small);
}

-- what each piece pays more is a floor of all
pub raised_under : (s : Size) (pieces : List (Piece × ℕ)) (extra : ℕ) → extra ≤ max_weight → AreLeastOver s (raised pieces extra) (λ _. extra)
raised_under s pieces extra small = record {
  below = λ e k weighs. let old = raised_from pieces extra (Edge e) k weighs in omega (arith, old.sum);
  within = λ e. small;
}

floor_is : (x : ℕ) (p : Piece) → floor_of (record { along_x = x; along_y = x; via = x }) p ≡ x
floor_is x (Edge e) = along (edge_axis e.0)
  where
    along : (axis : Axis) → floor_along (record { along_x = x; along_y = x; via = x }) axis ≡ x
    along X = refl
    along Y = refl
floor_is x (Via v) = refl

pub raised_floors : (pieces : List (Piece × ℕ)) (extra x : ℕ) → x ≡ extra → AreFloors (record { along_x = x; along_y = x; via = x }) (raised pieces extra)
raised_floors pieces extra x same p k weighs = let old = raised_from pieces extra p k weighs in omega (arith, old.sum, same, floor_is x p)
