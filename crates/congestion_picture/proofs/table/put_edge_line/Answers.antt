use Rattle.gr_desk.proofs.Pens.{puts-then}
use Rattle.congestion_picture.proofs.table.put_edge_line.Goals as goal

pub returns-clause-puts : goal.returns-clause-puts
returns-clause-puts g c =
    let place = rw c.size.ensures at c.put_place.ensures.puts in
    let both = rw c.tile_use.ensures.value at c.put_use.ensures.puts in
    puts-then (puts-then (puts-then place both) c.put_layers.ensures.puts) c.put.ensures.puts
