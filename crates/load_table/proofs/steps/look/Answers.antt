use Rattle.load_table.proofs.KeptRule.{looks}
use Rattle.load_table.proofs.steps.look.Goals as goal

pub load-requires : goal.load-requires
load-requires c = (c.requires.table, c.requires.words, looks c.args.table.now.key c.args.table.now.table_id.slots c.args.seat.now.id c.args.seat.now.me.0 c.args.seat.now.me.1)
