use Rattle.gr_desk.proofs.Pens.{puts-then}
use Rattle.congestion_picture.proofs.picture.put_maps.Goals as goal

pub returns-in-Both-clause-puts : goal.returns-in-Both-clause-puts
returns-in-Both-clause-puts g c =
    let second = rw (c.from.ensures, c.width.ensures) at c.put_map-in-Both.ensures.puts in
    rw c.in-Both.is (puts-then c.put_map.ensures.puts second)

pub returns-in-Greater-clause-puts : goal.returns-in-Greater-clause-puts
returns-in-Greater-clause-puts g c = rw c.in-Greater.is c.put_map-in-Greater.ensures.puts
