use Rattle.std.proofs.Common.{[], ap}
use Rattle.gr_desk.specs.Pens.{Puts, pen_told}
use Rattle.gr_desk.proofs.Pens.{puts-refl, puts-then, puts-held}
use Rattle.gr_desk.proofs.pen.Pen.put.Goals as goal
use Rattle.gr_desk.proofs.pen.Pen.put.Goals.{then-bytes-room, else-bytes-room}

pub returns-then-bytes-gt-ROOM-clause-puts : goal.returns-then-bytes-gt-ROOM-clause-puts
returns-then-bytes-gt-ROOM-clause-puts g c =
    let told = g.D.Desk.told in
    let before = pen_told told c.args.self.now in
    let between = pen_told told c.if-bytes-room.self in
    let made_room : Puts before between [] =
    elim c.if-bytes-room.branch [ then-bytes-room w ↦ rw w.self-is w.flush.ensures.puts | else-bytes-room w ↦ rw w.self-is (puts-refl before) ]
    in
    puts-then made_room c.pass.ensures.puts

pub returns-else-bytes-gt-ROOM-clause-puts : goal.returns-else-bytes-gt-ROOM-clause-puts
returns-else-bytes-gt-ROOM-clause-puts g c =
    let told = g.D.Desk.told in
    let before = pen_told told c.args.self.now in
    let between = pen_told told c.if-bytes-room.self in
    let made_room : Puts before between [] =
    elim c.if-bytes-room.branch [ then-bytes-room w ↦ rw w.self-is w.flush.ensures.puts | else-bytes-room w ↦ rw w.self-is (puts-refl before) ]
    in
    puts-then made_room
    (puts-held between _ c.args.bytes.now (ap (λ held. record between { held = held }) c.add.ensures))
