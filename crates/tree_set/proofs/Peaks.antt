-- Measures of equal loads are equal.
use Rattle.std.proofs.Common.{◌≡◌, ℕ, ◌*◌, ◌≤◌, Option, Some, None, subst}
use Rattle.grid_graph.specs.declared.grid.Grid.{Grid}
use Rattle.grid_graph.specs.Grids.{capacity}
use Rattle.fractions.specs.declared.fraction.Fraction.{Fraction}
use Rattle.tree_set.specs.Measures.{IsPeak}

pub IsPeak-same : (g : Grid) (f h : ℕ → ℕ) (peak : Option Fraction) → ((e : ℕ) → f e ≡ h e) → IsPeak g f peak → IsPeak g h peak
IsPeak-same g f h None same is = is
IsPeak-same g f h (Some x) same is = record {
  edge = is.edge;
  is_open = is.is_open;
  reached = subst (λ (n : ℕ). x.num * capacity g is.edge ≡ n * x.den) (same is.edge) is.reached;
  most = λ e at. subst (λ (n : ℕ). n * x.den ≤ x.num * capacity g e) (same e) (is.most e at);
}
