use Rattle.load_table.proofs.KeptRule.{joins}
use Rattle.load_table.proofs.handing.join.Goals as goal

pub join_seat-requires : goal.join_seat-requires
join_seat-requires c = (c.requires.table.0, c.requires.table.1, c.requires.free, c.requires.words, joins c.args.table.now.key c.args.seat.now.id c.args.other.id c.args.seat.now.me.0 c.args.other.me.0 c.requires.live)
