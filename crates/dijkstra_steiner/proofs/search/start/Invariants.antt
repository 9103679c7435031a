use Rattle.std.proofs.Common.{◌≡◌}
use Rattle.label_search.specs.Rows.{size_in}
use Rattle.label_search.specs.Runs.{IsSearch}
use Rattle.label_search.specs.Stamped.{max_key}
use Rattle.dijkstra_steiner.specs.Stacks.{rest_on}
use Rattle.dijkstra_steiner.proofs.Starting.{AreSeeded}
use Rattle.dijkstra_steiner.proofs.search.start.Given as goal

abbrev pub invariant-loop-place : goal.invariant-loop-place
invariant-loop-place g l = record {
  size : size_in l.row ≡ l.rest.stack.size;
  search : IsSearch (rest_on l.rest.stack.size l.terminals (g.F.Family.low l.rest.family.now)) max_key l.row;
  seeded : AreSeeded l.rest.stack.flat l.terminals l.place l.row;
}
