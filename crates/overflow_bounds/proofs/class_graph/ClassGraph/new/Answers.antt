use Rattle.std.proofs.Common.{sym, subst}
use Rattle.grid_base.specs.declared.size.Size.{Size}
use Rattle.grid_graph.specs.Flat.{IsFlatOf}
use Rattle.grid_graph.specs.Grids.{size_of}
use Rattle.overflow_bounds.proofs.class_graph.ClassGraph.new.Goals as goal

pub graph_of-requires-clause-flat : goal.graph_of-requires-clause-flat
graph_of-requires-clause-flat c = subst (IsFlatOf c.in_ok-costs.costs.size) c.size.ensures c.in_ok-costs.ensures

pub returns-clause-current : goal.returns-clause-current
returns-clause-current c =
    let s = size_of c.args.grid.now in
    record {
      priced = c.requires.prices;
      flat_of = subst (λ (x : Size). IsFlatOf x s) (sym c.graph_of.ensures.size) (subst (IsFlatOf c.in_ok-costs.costs.size) c.size.ensures c.in_ok-costs.ensures);
      graph = c.in_ok-graph.ensures.graph;
    }
