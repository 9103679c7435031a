use Rattle.std.proofs.Common.{◌∙◌}
use Rattle.gr_desk.proofs.Pens.{puts-more}
use Rattle.unavoidable_cli.specs.PricedEdges.{edge_line}
use Rattle.unavoidable_cli.proofs.report.put_edge_lines.Goals as goal

pub loop-priced-preserved : goal.loop-priced-preserved
loop-priced-preserved g c = record {
  same_desk = c.put_edge.ensures.same_desk ∙ c.loop-priced.invariant.same_desk;
  puts = puts-more (edge_line c.args.grid.now) c.args.edges.now c.loop-priced.priced-index _ c.loop-priced-test.true c.loop-priced.invariant.puts c.put_edge.ensures.puts;
}
