use Rattle.std.proofs.Common.{◌≡◌}
use Rattle.gr_desk.proofs.Pens.{puts-then}
use Rattle.congestion_picture.specs.Pictures as words
use Rattle.congestion_picture.proofs.picture.put_picture.Goals as goal

pub returns-clause-puts : goal.returns-clause-puts
returns-clause-puts g c =
    let maps = c.args.picture.now.maps in
    let first : c.first-first.result.now ≡ words.first_map maps = c.first-first.ensures in
    let across : c.across-left.result ≡ words.across maps = c.across-left.ensures.value in
    let head = rw (c.max-width.ensures, across, c.max.ensures, c.from.ensures, c.height.ensures, first) at c.put_head.ensures.puts in
    let facts = rw first at c.put_facts.ensures.puts in
    let scale = rw across at c.put_scale.ensures.puts in
    puts-then (puts-then (puts-then head facts) c.put_maps.ensures.puts) scale
