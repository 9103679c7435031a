use Rattle.steiner_tables.specs.declared.kept_rows.KeptRows.{KeptRows}
use Rattle.label_search.specs.Founds.{FindsMore}
use Rattle.label_search.specs.Rows.{number_in}
use Rattle.steiner_tables.specs.RowWork.{IsSeeded, AreOffered}
use Rattle.label_search.specs.Runs.{IsSearch}
use Rattle.steiner_tables.proofs.seeds.seed_alone.Given as goal

abbrev pub invariant-loop-place : goal.invariant-loop-place
invariant-loop-place g l = record {
  search : IsSearch (g.B.Bound.rest l.bound) l.limit l.row;
  found : FindsMore l.initial.row.found l.row.found;
  seeded : (rows : KeptRows) → IsSeeded rows l.terminals l.mask (g.B.Bound.rest l.bound) l.limit l.initial.row
      → IsSeeded rows l.terminals l.mask (g.B.Bound.rest l.bound) l.limit l.row;
  alone : AreOffered l.terminals l.mask (g.B.Bound.rest l.bound) l.limit (number_in l.row) l.place;
}
