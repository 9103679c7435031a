use Rattle.std.proofs.Common.{◌≡◌, ◌-◌, length, get_or, refl, sym, ◌∙◌, ap, subst, arith}
use Rattle.std.proofs.lemmas.Option.{slice_get-get_or}
use Rattle.overflow_bounds.specs.NodeTables.{IsNodeTable, all_but_last}
use Rattle.overflow_bounds.specs.NodeRows.{number_of_mask, numbers_of_mask}
use Rattle.overflow_bounds.proofs.MoreMasks.{table_none}
use Rattle.overflow_bounds.proofs.Splits.{row_read}
use Rattle.overflow_bounds.proofs.node_tables.NodeTables.least_joining.Goals as goal

pub returns-then-last-eq0 : goal.returns-then-last-eq0
returns-then-last-eq0 c =
    let nodes = c.args.nodes in
    let links = c.args.links.now in
    let ends = c.args.ends.now in
    let none : 0 ≡ all_but_last ends = sym c.if-last-eq0.true ∙ c.all_but_last-last.ensures in
    record {
      number = λ mask n. 0;
      holds = subst (λ m. IsNodeTable nodes links ends m (λ mask n. 0)) none (table_none nodes links ends (λ mask n. 0));
      root = get_or ends (length ends - 1) 0;
      stands = slice_get-get_or ends (length ends - 1) 0 (omega (arith, c.requires.some));
      value = refl;
    }

pub returns : goal.returns
returns c =
    let nodes = c.args.nodes in
    let links = c.args.links.now in
    let ends = c.args.ends.now in
    let last = c.all_but_last-last.result in
    let rows = c.make_rows.new.self.rows.items in
    let root = get_or ends (length ends - 1) 0 in
    let row : c.list.result.now ≡ numbers_of_mask rows last =
    row_read rows (last - 1) c.index.result.now c.list.result.now
    (omega (arith, c.make_rows.ensures.rows, c.if-last-eq0.false)) c.index.ensures c.list.ensures in
    record {
      number = number_of_mask rows;
      holds = subst (λ m. IsNodeTable nodes links ends m (number_of_mask rows)) c.all_but_last-last.ensures
          c.in_ok-make_rows.ensures.holds;
      root = root;
      stands = slice_get-get_or ends (length ends - 1) 0 (omega (arith, c.requires.some));
      value = ap (λ xs. get_or xs root 0) row ∙ ap (λ m. number_of_mask rows m root) c.all_but_last-last.ensures;
    }
