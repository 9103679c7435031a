-- The peak with a budget, from the peak of the edges.
use Rattle.std.proofs.Common.{ℕ, ◌*◌, ◌≤◌, ◌<◌, Option, Some, None, inl, inr, ⊎_elim, subst, sym, arith}
use Rattle.grid_graph.specs.declared.grid.Grid.{Grid}
use Rattle.fractions.specs.declared.fraction.Fraction.{Fraction}
use Rattle.fractions.specs.Fractions.{IsGreaterOf, IsRatio}
use Rattle.tree_set.specs.Measures.{IsPeak, IsGreatest, IsGreatestWith}
use Rattle.fractions.proofs.Ratios.{ratio-trans}

-- the edges have no more than the wirelength has
above_edges : (g : Grid) (load : ℕ → ℕ) (wire budget : ℕ) (edges f : Fraction) → IsGreatest g load edges → IsRatio wire budget f → 0 < budget
    → edges.num * budget ≤ wire * edges.den → IsGreatestWith g load wire budget f
above_edges g load wire budget edges f peak is some above =
    let rises = ratio-trans edges.num edges.den wire budget f.num f.den above (omega (arith, is)) some in
    record {
      reached = inl is;
      most = λ e at. ratio-trans (load e) _ edges.num edges.den f.num f.den (peak.most e at) rises edges.lowest.positive;
      of_wire = omega (arith, is);
    }

-- the wirelength has no more than the edges have
below_edges : (g : Grid) (load : ℕ → ℕ) (wire budget : ℕ) (edges : Fraction) → IsGreatest g load edges → wire * edges.den ≤ edges.num * budget
    → IsGreatestWith g load wire budget edges
below_edges g load wire budget edges peak below = record {
  reached = inr (peak.edge, peak.is_open, peak.reached);
  most = peak.most;
  of_wire = below;
}

pub greatest_with : (g : Grid) (load : ℕ → ℕ) (wire budget : ℕ) (edges : Option Fraction) (f : Fraction) → 0 < budget → IsPeak g load edges
    → IsGreaterOf edges wire budget f → IsGreatestWith g load wire budget f
greatest_with g load wire budget None f some peak greater = record {
  reached = inl greater;
  most = λ e at. absurd (peak e at);
  of_wire = omega (arith, greater);
}
greatest_with g load wire budget (Some edges) f some peak greater = ⊎_elim
    (λ kept. subst (IsGreatestWith g load wire budget) (sym kept.0) (below_edges g load wire budget edges peak kept.1))
    (λ new. above_edges g load wire budget edges f peak new.0 some new.1)
    greater
