use Rattle.std.proofs.Common.{◌≡◌, take, All}
use Rattle.grid_base.specs.declared.vertex.Vertex.{Vertex}
use Rattle.label_search.specs.Founds.{FindsMore}
use Rattle.label_search.specs.Rows.{size_in, number_in}
use Rattle.label_search.specs.Runs.{IsSearch}
use Rattle.label_search.specs.Starts.{IsStarted}
use Rattle.label_search.proofs.search.start_each.Given as goal

abbrev pub invariant-loop-source : goal.invariant-loop-source
invariant-loop-source g l = record {
  size : size_in l.row ≡ size_in l.fn.row;
  found : FindsMore l.fn.row.found l.row.found;
  search : IsSearch (g.B.Bound.rest l.bound) l.limit l.row;
  started : IsStarted l.sources l.row;
  zero : All (λ (v : Vertex). number_in l.row v.0 ≡ 0) (take l.source-index l.sources);
}
