use Rattle.std.proofs.Common.{◌+◌, ◌<◌, length, length-set, sym, subst, arith}
use Rattle.overflow_bounds.specs.NodeRows.{IsNodeRow, number_of_mask}
use Rattle.overflow_bounds.proofs.MoreMasks.{long_more, table_more, table_none}
use Rattle.overflow_bounds.proofs.node_tables.NodeTables.make_rows.Goals as goal

pub loop-made-init : goal.loop-made-init
loop-made-init c = record {
  rows = c.requires.rows;
  long = λ m some none. absurd (omega (arith, some, none));
  holds = table_none c.args.nodes c.args.links.now c.args.ends.now (number_of_mask c.args.self.now.rows.items);
}

pub loop-made-preserved : goal.loop-made-preserved
loop-made-preserved c =
    let nodes = c.args.nodes in
    let links = c.args.links.now in
    let ends = c.args.ends.now in
    let rows = c.loop-made.self.rows.items in
    let made = c.loop-made.made in
    let row = c.swap.new.x in
    let before = c.loop-made.invariant in
    let low : made < length rows = omega (arith, c.loop-made-test.true, before.rows) in
    let is : IsNodeRow nodes links ends rows (made + 1) row =
    subst (IsNodeRow nodes links ends rows (made + 1)) (sym c.swap.ensures.x_after)
    (subst (λ xs. IsNodeRow nodes links ends xs (made + 1) c.make.new.self) c.as_slice.ensures.value c.in_ok-make.ensures) in
    record {
      rows = omega (arith, before.rows, length-set rows made row);
      long = long_more nodes rows made row low is.long before.long;
      holds = table_more nodes links ends rows made row low before.holds is;
    }
