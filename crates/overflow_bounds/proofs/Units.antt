-- Numbers that divide others, and units by which edges count.
use Rattle.std.proofs.Common.{◌≡◌, ℕ, ◌+◌, ◌-◌, ◌*◌, ◌/◌, ◌%◌, ◌<◌, ◌≤◌, List, Bool, true, false, cond, ltb, slice_index, max, min, refl, sym, ◌∙◌, ap, ⊎_elim, arith}
use Rattle.std.proofs.Math.Nat.{div-add-mod, mod-eq_of_lt, mod-lt, mul-le-mul_left, mul-le-mul_right, mul-mod_right}
use Rattle.std.proofs.lemmas.Nat.{div-mul-add}
use Rattle.std.proofs.lemmas.Bool.{cases_lt, ltb-false}
use Rattle.std.specs.List.{Contains}
use Rattle.grid_base.specs.declared.size.Size.{Size}
use Rattle.grid_base.specs.Numbers.{cols, edge_start, layer_of, layers, rows, vertices}
use Rattle.grid_graph.specs.declared.design.Design.{Design}
use Rattle.grid_graph.specs.declared.grid.Grid.{Grid}
use Rattle.grid_graph.specs.declared.net_spec.NetSpec.{NetSpec}
use Rattle.grid_graph.specs.Grids.{capacity, demand_on, edge_numbers, size_of}
use Rattle.grid_graph.specs.Limits.{max_demand}
use Rattle.grid_graph.proofs.TileSteps.{some_tiles}
use Rattle.overflow_bounds.specs.Units.{AreLayerUnits, layer_unit, missing, unit_at}
use Rattle.dual_bound.specs.WholeWires.{AreUnits, IsMostOfUnits}

-- a number that divides another and what this leaves of a third divides the third
pub divides_back : (a b d : ℕ) → b % d ≡ 0 → a % b % d ≡ 0 → a % d ≡ 0
divides_back a b d of_b of_rest =
    let whole : d * (b / d) ≡ b = omega (arith, div-add-mod b d, of_b) in
    let rest : d * (a % b / d) ≡ a % b = omega (arith, div-add-mod (a % b) d, of_rest) in
    let times : b * (a / b) ≡ d * (b / d) * (a / b) = ap (λ n. n * (a / b)) (sym whole) in
    let parts : d * (b / d * (a / b) + a % b / d) ≡ d * (b / d) * (a / b) + d * (a % b / d) = omega arith in
    let is : a ≡ d * (b / d * (a / b) + a % b / d) = omega (arith, div-add-mod a b, times, parts, rest) in
    ap (λ n. n % d) is ∙ mul-mod_right d (b / d * (a / b) + a % b / d)

-- a number divides what another one divides that it divides
pub divides_through : (a b d : ℕ) → a % b ≡ 0 → b % d ≡ 0 → a % d ≡ 0
divides_through a b d of_a of_b = divides_back a b d of_b (ap (λ n. n % d) of_a ∙ omega arith)

-- 1 stands for a unit that is none
pub unit_kept : (unit : ℕ) → 0 < unit → max 1 unit ≡ unit
unit_kept unit some = omega (arith, some)

-- what divides a positive number is not above it
pub divides_below : (a d : ℕ) → 0 < a → a % d ≡ 0 → d ≤ a
divides_below a d some is = ⊎_elim
    (λ (above : a < d). absurd (omega (arith, some, is, mod-eq_of_lt above)))
    (λ (at : d ≤ a). at)
    (cases_lt a d)

-- each net uses a multiple of the unit of the edges of a layer
pub record IsUnitOf (d : Design) (layer unit : ℕ) : Type 0 where
  pub some : 0 < unit
  pub small : unit ≤ max_demand
  pub divides : (e : ℕ) (n : NetSpec) → e < edge_numbers d.grid → layer_of (size_of d.grid) (edge_start e) ≡ layer → Contains d.nets n → demand_on d.grid n.width e % unit ≡ 0

-- ---- which unit counts

pub some_unit : (g : Grid) (units : List ℕ) (e : ℕ) → 1 ≤ layer_unit g units e
some_unit g units e = omega arith

unit_some : (b : Bool) (unit : ℕ) → 1 ≤ unit → 0 < cond b 1 unit
unit_some true unit some = omega arith
unit_some false unit some = omega (arith, some)

unit_divides : (b : Bool) (unit demand : ℕ) → demand % unit ≡ 0 → demand % cond b 1 unit ≡ 0
unit_divides true unit demand is = omega arith
unit_divides false unit demand is = is

-- nets use multiples of the units by which edges count
pub units_serve : (d : Design) (prices units : List ℕ) (most : ℕ) → AreLayerUnits d units → AreUnits d (unit_at d.grid prices units most)
units_serve d prices units most are = record {
  positive = λ e. unit_some (ltb (most * missing d.grid units e) (slice_index prices e * layer_unit d.grid units e)) (layer_unit d.grid units e) (some_unit d.grid units e);
  divides = λ e n inside at. unit_divides (ltb (most * missing d.grid units e) (slice_index prices e * layer_unit d.grid units e)) (layer_unit d.grid units e)
      (demand_on d.grid n.width e) (are.divides e n inside at);
}

counts_within : (b : Bool) (price unit most room : ℕ) → price ≤ most → (b ≡ false → price * unit ≤ most * (unit - room % unit)) → price * cond b 1 unit ≤ most * (cond b 1 unit - room % cond b 1 unit)
counts_within true price unit most room at_most is =
    let left : 1 - room % 1 ≡ 1 = omega arith in
    let scaled : most * (1 - room % 1) ≡ most * 1 = ap (λ n. most * n) left in
    omega (arith, scaled, at_most)
counts_within false price unit most room at_most is = is refl

-- a number that is at least every price is great enough for these units
pub most_serves : (g : Grid) (prices units : List ℕ) (most : ℕ) → 0 < most → ((e : ℕ) → e < edge_numbers g → slice_index prices e ≤ most) → IsMostOfUnits g prices (unit_at g prices units most) most
most_serves g prices units most some at_most = record {
  positive = some;
  each = λ e inside. counts_within (ltb (most * missing g units e) (slice_index prices e * layer_unit g units e)) (slice_index prices e) (layer_unit g units e) most (capacity g e)
      (at_most e inside) (λ is. ltb-false (most * missing g units e) (slice_index prices e * layer_unit g units e) is);
}

-- a quotient is rounded up where the divisor is added but for 1
pub rounded_up : (x y : ℕ) → 0 < y → x / y + min 1 (x % y) ≡ (x + (y - 1)) / y
rounded_up x y some =
    let whole : y * (x / y) + x % y ≡ x = div-add-mod x y in
    let less : x % y < y = mod-lt x some in
    ⊎_elim
    (λ (rest : 0 < x % y).
    let turned : (x / y + 1) * y ≡ y * (x / y) + y = omega arith in
    let sum : x + (y - 1) ≡ (x / y + 1) * y + (x % y - 1) = omega (arith, whole, turned, rest, some) in
    let quotient : (x + (y - 1)) / y ≡ x / y + 1 = ap (λ n. n / y) sum ∙ div-mul-add (x / y + 1) y (x % y - 1) (omega (arith, less, rest)) in
    omega (arith, quotient, rest))
    (λ (none : x % y ≤ 0).
    let turned : x / y * y ≡ y * (x / y) = omega arith in
    let sum : x + (y - 1) ≡ x / y * y + (y - 1) = omega (arith, whole, turned, none) in
    let quotient : (x + (y - 1)) / y ≡ x / y = ap (λ n. n / y) sum ∙ div-mul-add (x / y) y (y - 1) (omega (arith, some)) in
    omega (arith, quotient, none))
    (cases_lt 0 (x % y))

-- a price is at most what its unit costs by what is missing, rounded up
pub price_below : (price unit missing_to shown : ℕ) → 0 < unit → missing_to ≤ unit → price * unit ≤ shown * missing_to → price ≤ shown
price_below price unit missing_to shown some small paid = ⊎_elim
    (λ (less : shown < price).
    let scaled : (shown + 1) * unit ≤ price * unit = mul-le-mul_right unit (omega (arith, less)) in
    let split : (shown + 1) * unit ≡ shown * unit + unit = omega arith in
    let within : shown * missing_to ≤ shown * unit = mul-le-mul_left shown small in
    absurd (omega (arith, scaled, split, within, paid, some)))
    (λ (at : price ≤ shown). at)
    (cases_lt shown price)

-- the first edge of a layer is one of the grid
pub first_edge : (s : Size) (layer e n : ℕ) → n ≡ cols s * rows s → e ≡ 2 * (layer * n) → layer < layers s → e < 2 * vertices s
first_edge s layer e n per_layer first below =
    let some : 0 < cols s * rows s = some_tiles s in
    let room : (layer + 1) * (cols s * rows s) ≤ layers s * (cols s * rows s) = mul-le-mul_right (cols s * rows s) (omega (arith, below)) in
    let start : layer * n ≡ layer * (cols s * rows s) = ap (λ k. layer * k) per_layer in
    let split : (layer + 1) * (cols s * rows s) ≡ layer * (cols s * rows s) + cols s * rows s = omega arith in
    let all : layers s * (cols s * rows s) ≡ vertices s = omega arith in
    omega (arith, first, start, room, some, split, all)
