use Rattle.std.proofs.Common.{◌≡◌, ◌+◌, ◌-◌, refl, subst, ◌∙◌, arith}
use Rattle.label_search.specs.Founds.{index_in}
use Rattle.steiner_tables.specs.Kept.{kept_in}
use Rattle.shortest_paths.specs.LabelWords.{label_of}
use Rattle.label_search.specs.Stamped.{far}
use Rattle.steiner_tables.specs.RowWork.{table_of}
use Rattle.steiner_tables.specs.Tables.{IsPrunedTable}
use Rattle.steiner_tables.proofs.RowTables.{kept_limit, table_none}
use Rattle.shortest_paths.proofs.labels.Labels.pruned.Goals as goal

pub returns-clause-table : goal.returns-clause-table
returns-clause-table g c =
    let all : c.loop-mask.mask - 1 ≡ c.args.last = omega arith in
    subst (λ n. IsPrunedTable (g.W.Weights.size c.args.weights.now) (g.W.Weights.pieces c.args.weights.now) c.args.terminals.now n (g.F.Family.low c.args.family.now) c.args.limit far (label_of c.loop-mask.self)) all c.loop-mask.invariant.table

pub loop-mask-init : goal.loop-mask-init
loop-mask-init g c =
    let rows = c.forget.new.self in
    let found = c.forget-2.new.self.found in
    record {
      size = refl;
      masks = refl;
      table = table_none (g.W.Weights.size c.args.weights.now) (g.W.Weights.pieces c.args.weights.now) c.args.terminals.now (g.F.Family.low c.args.family.now) (λ m v. kept_in rows m (index_in found v)) c.args.limit (λ m v. kept_limit rows m (index_in found v));
    }

pub loop-mask-preserved : goal.loop-mask-preserved
loop-mask-preserved g c =
    let before = c.loop-mask.invariant in
    let after = c.fill.ensures in
    let next : c.loop-mask.mask ≡ c.loop-mask.mask + 1 - 1 = omega arith in
    record {
      size = after.found.size ∙ before.size;
      masks = after.masks ∙ before.masks;
      table = subst (λ n. IsPrunedTable (g.W.Weights.size c.args.weights.now) (g.W.Weights.pieces c.args.weights.now) c.args.terminals.now
          n (g.F.Family.low c.args.family.now) c.args.limit far (table_of c.fill.new.rows c.fill.new.row)) next after.table;
    }
