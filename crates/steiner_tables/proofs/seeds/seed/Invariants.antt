use Rattle.std.proofs.Common.{length}
use Rattle.label_search.specs.Founds.{FindsMore}
use Rattle.label_search.specs.Rows.{number_in}
use Rattle.steiner_tables.specs.RowWork.{IsSeeded, AreOffered, AreSplitsOffered, table_of}
use Rattle.steiner_tables.proofs.seeds.seed.Given as goal

abbrev pub invariant-loop-one : goal.invariant-loop-one
invariant-loop-one g l = record {
  found : FindsMore l.fn.row.found l.row.found;
  seeded : IsSeeded l.rows l.terminals l.mask (g.B.Bound.rest l.bound) l.limit l.row;
  alone : AreOffered l.terminals l.mask (g.B.Bound.rest l.bound) l.limit (number_in l.row) (length l.terminals);
  splits : AreSplitsOffered (table_of l.rows l.row) l.mask (g.B.Bound.rest l.bound) l.limit (number_in l.row) l.one;
}
