-- The measures of a load per edge number: overflow and peak; and the wirelength.
use Rattle.std.specs.Prelude.{ℕ, ◌≡◌, ◌≢◌, ◌-◌, ◌*◌, ◌≤◌, ◌⊎◌, List, length, map, Option, Some, None}
use Rattle.std.specs.List.{sum, sum_by, range_with_len}
use Rattle.grid_base.specs.declared.piece.Piece.{Piece}
use Rattle.grid_base.specs.Numbers.{vertices}
use Rattle.grid_graph.specs.declared.grid.Grid.{Grid}
use Rattle.grid_graph.specs.declared.kind.Kind.{Kind}
use Rattle.grid_graph.specs.declared.kind.Kind.TheVariants.{Open, Choked, Wall}
use Rattle.grid_graph.specs.Grids.{kind, capacity, size_of}
use Rattle.fractions.specs.declared.fraction.Fraction.{Fraction}
use Rattle.fractions.specs.Fractions.{IsRatio}

-- how much more than the capacity the load of an edge of this kind is; walls don't count
abbrev pub excess : Kind → ℕ → ℕ → ℕ
excess Open load capacity = load - capacity
excess Choked load capacity = load - capacity
excess Wall load capacity = 0

-- the overflow: the sum of the excesses over all edge numbers
abbrev pub overflow : Grid → (ℕ → ℕ) → ℕ
overflow g load = sum (map (λ e. excess (kind g e) (load e) (capacity g e)) (range_with_len 0 (2 * vertices (size_of g))))

-- the wirelength: the number of pieces of all sets
abbrev pub wirelength : List (List Piece) → ℕ
wirelength trees = sum_by length trees

-- the fraction is load/capacity of an open edge, and no open edge has more
pub record IsGreatest (g : Grid) (load : ℕ → ℕ) (f : Fraction) : Type 0 where
  pub edge : ℕ
  pub is_open : kind g edge ≡ Open
  pub reached : IsRatio (load edge) (capacity g edge) f
  pub most : (e : ℕ) → kind g e ≡ Open → load e * f.den ≤ f.num * capacity g e

-- the peak: the greatest load/capacity over the open edges, and none where no edge is open
abbrev pub IsPeak : Grid → (ℕ → ℕ) → Option Fraction → Type 0
IsPeak g load None = (e : ℕ) → kind g e ≢ Open
IsPeak g load (Some f) = IsGreatest g load f

-- the fraction is load/capacity of an open edge or of the wirelength, whose capacity is the budget, and none of these has more
pub record IsGreatestWith (g : Grid) (load : ℕ → ℕ) (wire budget : ℕ) (f : Fraction) : Type 0 where
  pub reached : IsRatio wire budget f ⊎ ((edge : ℕ) × (kind g edge ≡ Open) × IsRatio (load edge) (capacity g edge) f)
  pub most : (e : ℕ) → kind g e ≡ Open → load e * f.den ≤ f.num * capacity g e
  pub of_wire : wire * f.den ≤ f.num * budget

-- the peak with a budget, if there is one: the greatest load/capacity over the open edges and the wirelength
abbrev pub IsPeakWith : Grid → (ℕ → ℕ) → ℕ → Option ℕ → Option Fraction → Type 0
IsPeakWith g load wire None peak = IsPeak g load peak
IsPeakWith g load wire (Some budget) None = ⊥
IsPeakWith g load wire (Some budget) (Some f) = IsGreatestWith g load wire budget f
