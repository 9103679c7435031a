use Rattle.std.proofs.Common.{◌≡◌, ◌*◌, slice_index, ◌∙◌, ap, arith}
use Rattle.grid_base.specs.declared.size.Size.{Size}
use Rattle.grid_graph.specs.Flat.{tiles}
use Rattle.grid_graph.specs.Grids.{size_of}
use Rattle.congestion_picture.specs.Tables.{line_of_number}
use Rattle.congestion_picture.proofs.Ranges.{puts-number, puts-numbers}
use Rattle.congestion_picture.proofs.table.put_lines.Goals as goal

pub loop-number-preserved : goal.loop-number-preserved
loop-number-preserved g c =
    record {
      same_desk = c.put_number_line.ensures.same_desk ∙ c.loop-number.invariant.same_desk;
      puts = puts-number (line_of_number c.args.grid.now (slice_index c.args.loads.now) c.args.shown c.args.each) c.loop-number.number c.loop-number.invariant.puts c.put_number_line.ensures.puts;
    }

pub returns-clause-puts : goal.returns-clause-puts
returns-clause-puts g c =
    let end : c.tile_edges-number-end.result ≡ 2 * tiles (size_of c.args.grid.now) =
    c.tile_edges-number-end.ensures ∙ ap (λ (s : Size). 2 * tiles s) c.size.ensures in
    puts-numbers (line_of_number c.args.grid.now (slice_index c.args.loads.now) c.args.shown c.args.each) c.loop-number.number (2 * tiles (size_of c.args.grid.now))
    (omega (arith, c.loop-number-test.false, c.loop-number.auto.number-end, end)) c.loop-number.invariant.puts
