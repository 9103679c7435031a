use Rattle.std.proofs.Common.{◌<◌, ◌≤◌, ◌-◌, ℕ, List}
use Rattle.grid_base.specs.declared.vertex.Vertex.{Vertex}
use Rattle.label_search.specs.Founds.{FindsMore, index_in}
use Rattle.label_search.specs.Rows.{number_in}
use Rattle.steiner_tables.specs.RowWork.{IsSeeded, IsSumOffered, table_of}
use Rattle.label_search.specs.Runs.{IsSearch}
use Rattle.steiner_tables.proofs.seeds.seed_split.Given as goal

abbrev pub invariant-loop-index : goal.invariant-loop-index
invariant-loop-index g l = record {
  search : IsSearch (g.B.Bound.rest l.bound) l.limit l.row;
  found : FindsMore l.initial.row.found l.row.found;
  falls : (v : ℕ) → number_in l.row v ≤ number_in l.initial.row v;
  seeded : (terminals : List Vertex) → IsSeeded l.rows terminals l.mask (g.B.Bound.rest l.bound) l.limit l.initial.row
      → IsSeeded l.rows terminals l.mask (g.B.Bound.rest l.bound) l.limit l.row;
  offered : (v : ℕ) → index_in l.initial.row.found v < l.index
      → IsSumOffered (table_of l.rows l.row) l.one (l.mask - l.one) (g.B.Bound.rest l.bound) l.limit (number_in l.row) v;
}
