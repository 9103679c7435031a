use Rattle.gr_desk.proofs.Pens.{puts-then}
use Rattle.route_text.proofs.Texts.{puts-segments}
use Rattle.route_text.proofs.net.put_net.Goals as goal

pub returns-clause-puts : goal.returns-clause-puts
returns-clause-puts g c =
    let head = puts-then (puts-then (puts-then (rw c.list.ensures at c.put.ensures.puts) c.put-2.ensures.puts) c.put_number.ensures.puts) c.put-3.ensures.puts in
    let body = puts-segments c.args.grid.now c.args.tree.now c.put_runs.ensures.puts c.put_runs-2.ensures.puts c.put_vias.ensures.puts in
    puts-then (puts-then head body) c.put-4.ensures.puts
