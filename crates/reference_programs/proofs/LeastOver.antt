-- What edges of a list over a tile edge weigh at least.
use Rattle.std.proofs.Common.{◌≡◌, ℕ, suc, ◌≤◌, ◌⊎◌, List, [], ◌∷◌, true, cond, min, refl, ap, subst, ⊎_elim, arith}
use Rattle.std.proofs.lemmas.Bool.{cases_cond, eq-eqb}
use Rattle.grid_base.specs.declared.axis.Axis.{Axis}
use Rattle.grid_base.specs.declared.axis.Axis.TheVariants.{X, Y}
use Rattle.grid_base.specs.declared.piece.Piece.{Piece}
use Rattle.grid_base.specs.declared.piece.Piece.TheVariants.{Edge, Via}
use Rattle.grid_base.specs.declared.size.Size.{Size}
use Rattle.grid_base.specs.Numbers.{edge_axis}
use Rattle.grid_base.proofs.Lists.{head_or_rest}
use Rattle.grid_graph.specs.declared.floors.Floors.{Floors}
use Rattle.grid_graph.specs.Flat.{tile_edge_of, AreLeastOver}
use Rattle.grid_graph.specs.Floors.{floor_along, AreFloors}
use Rattle.grid_graph.specs.Limits.{max_weight}
use Rattle.grid_graph.specs.Weighed.{Weighs}
use Rattle.reference_programs.specs.LeastOver.{is_over, least_over}

-- one more piece lowers it to the piece's weight, or leaves it
step_cases : (s : Size) (x : Piece × ℕ) (pieces : List (Piece × ℕ)) (e : ℕ)
    → (least_over s (x ∷ pieces) e ≡ min x.1 (least_over s pieces e)) ⊎ (least_over s (x ∷ pieces) e ≡ least_over s pieces e)
step_cases s x pieces e = cases_cond (is_over s e x.0) (min x.1 (least_over s pieces e)) (least_over s pieces e)
    (least_over s (x ∷ pieces) e) refl

least_over-within : (s : Size) (pieces : List (Piece × ℕ)) (e : ℕ) → least_over s pieces e ≤ max_weight
least_over-within s [] e = omega arith
least_over-within s (x ∷ pieces) e =
    let rest = least_over-within s pieces e in
    ⊎_elim (λ is. omega (arith, is, rest)) (λ is. omega (arith, is, rest)) (step_cases s x pieces e)

least_over-below : (s : Size) (pieces : List (Piece × ℕ)) (p : Piece) (weight e : ℕ) → Weighs pieces p weight
    → is_over s e p ≡ true → least_over s pieces e ≤ weight
least_over-below s [] p weight e at over = absurd (omega (arith, at.1))
least_over-below s (x ∷ pieces) p weight e at over = ⊎_elim
    (λ (here : (p, weight) ≡ x).
    let first : is_over s e x.0 ≡ true = subst (λ (y : Piece × ℕ). is_over s e y.0 ≡ true) here over in
    let lowered = ap (λ b. cond b (min x.1 (least_over s pieces e)) (least_over s pieces e)) first in
    omega (arith, lowered, ap (λ (y : Piece × ℕ). y.1) here))
    (λ behind.
    let rest = least_over-below s pieces p weight e behind over in
    ⊎_elim (λ is. omega (arith, is, rest)) (λ is. omega (arith, is, rest)) (step_cases s x pieces e))
    (head_or_rest x pieces (p, weight) at)

pub least_over-under : (s : Size) (pieces : List (Piece × ℕ)) → AreLeastOver s pieces (least_over s pieces)
least_over-under s pieces = record {
  below = λ e weight weighs. least_over-below s pieces (Edge e) weight (tile_edge_of s e.0) weighs
      (eq-eqb (tile_edge_of s e.0) (tile_edge_of s e.0) refl);
  within = λ e. least_over-within s pieces e;
}

-- it is no less than what all pieces weigh at least
pub least_over-least : (s : Size) (pieces : List (Piece × ℕ)) (least e : ℕ) → least ≤ max_weight
    → ((p : Piece) (weight : ℕ) → Weighs pieces p weight → least ≤ weight) → least ≤ least_over s pieces e
least_over-least s [] least e limit below = limit
least_over-least s (x ∷ pieces) least e limit below =
    let rest = least_over-least s pieces least e limit (λ p weight at. below p weight (suc at.0, omega (arith, at.1), at.2)) in
    let first = below x.0 x.1 (0, omega arith, refl) in
    ⊎_elim (λ is. omega (arith, is, rest, first)) (λ is. omega (arith, is, rest)) (step_cases s x pieces e)

-- the same floor for all pieces
abbrev pub level : ℕ → Floors
level least = record { along_x = least; along_y = least; via = least }

pub along_level : (least : ℕ) (axis : Axis) → floor_along (level least) axis ≡ least
along_level least X = refl
along_level least Y = refl

pub AreFloors-level : (least : ℕ) (pieces : List (Piece × ℕ))
    → ((p : Piece) (weight : ℕ) → Weighs pieces p weight → least ≤ weight) → AreFloors (level least) pieces
AreFloors-level least pieces below (Edge e) weight weighs =
    omega (arith, along_level least (edge_axis e.0), below (Edge e) weight weighs)
AreFloors-level least pieces below (Via v) weight weighs = below (Via v) weight weighs
