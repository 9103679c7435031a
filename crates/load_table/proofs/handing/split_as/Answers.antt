use Rattle.load_table.proofs.KeptRule.{splits}
use Rattle.load_table.proofs.handing.split_as.Goals as goal

pub split_seat-requires : goal.split_seat-requires
split_seat-requires g c = (c.requires.table, c.requires.words, rw (← c.requires.picked.0, ← c.requires.picked.1, c.requires.key) (splits c.args.table.now.table_id.words c.args.seat.now.id c.args.allot c.args.given.now c.args.seat.now.me.0 c.requires.live c.requires.part))
