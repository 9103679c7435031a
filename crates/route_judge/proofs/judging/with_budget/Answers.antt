use Rattle.std.proofs.Common.{ℕ, Some, sym, ◌∙◌, subst}
use Rattle.edge_prices.specs.Budgets.{most_of}
use Rattle.tree_set.specs.Loads.{load}
use Rattle.tree_set.specs.Measures.{IsPeakWith}
use Rattle.route_judge.specs.Measured.{AreMeasured}
use Rattle.route_judge.proofs.judging.with_budget.Goals as goal

pub returns-in-Some : goal.returns-in-Some
returns-in-Some c = record {
  measured = λ d over blocks m.
      let of = c.with_budget.ensures in
      subst (λ b. AreMeasured d over blocks (most_of b) c.with_budget.result c.args.measured.beyond) (sym c.in-Some.is) (record {
        trees = m.trees;
        sets = m.sets;
        joining = m.joining;
        measure = record {
          of_overflow = of.overflow ∙ m.measure.of_overflow;
          of_wirelength = of.wirelength ∙ m.measure.of_wirelength;
          of_peak = subst (λ (w : ℕ). IsPeakWith d.grid (load d.grid d.nets m.trees) w (Some c.in-Some.budget.most) c.with_budget.result.peak) m.measure.of_wirelength
              (of.greatest d.grid (load d.grid d.nets m.trees) m.measure.of_peak);
        };
        beyond_ground = m.beyond_ground;
      });
}
