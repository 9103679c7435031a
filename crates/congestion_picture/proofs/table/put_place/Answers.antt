use Rattle.std.proofs.Common.{◌≡◌, sym, ◌∙◌, ap}
use Rattle.gr_desk.proofs.Pens.{puts-then}
use Rattle.grid_base.specs.Numbers.{edge_start, place_at}
use Rattle.congestion_picture.proofs.table.put_place.Goals as goal

pub returns-in-X-clause-puts : goal.returns-in-X-clause-puts
returns-in-X-clause-puts g c =
    let place : c.place_of-place.result ≡ place_at c.args.size (edge_start c.args.edge.0) =
    c.place_of-place.ensures.place ∙ ap (place_at c.args.size) c.start.ensures in
    let col = rw place at c.put_number.ensures.puts in
    let row = rw place at c.put_number-2.ensures.puts in
    rw (sym c.in-X.ensures) (puts-then (puts-then (puts-then (puts-then col c.put.ensures.puts) row) c.put-2.ensures.puts) c.put-in-X.ensures.puts)

pub returns-in-Y-clause-puts : goal.returns-in-Y-clause-puts
returns-in-Y-clause-puts g c =
    let place : c.place_of-place.result ≡ place_at c.args.size (edge_start c.args.edge.0) =
    c.place_of-place.ensures.place ∙ ap (place_at c.args.size) c.start.ensures in
    let col = rw place at c.put_number.ensures.puts in
    let row = rw place at c.put_number-2.ensures.puts in
    rw (sym c.in-Y.ensures) (puts-then (puts-then (puts-then (puts-then col c.put.ensures.puts) row) c.put-2.ensures.puts) c.put-in-Y.ensures.puts)
