use Rattle.load_table.proofs.KeptRule.{loads}
use Rattle.load_table.proofs.steps.load.Goals as goal

pub load-requires : goal.load-requires
load-requires c = (c.requires.may.same, c.requires.may.inside, rw (c.requires.may.told, c.requires.may.free) (loads c.args.table.now.table_id.words c.args.table.now.table_id.slots c.args.seat.now.id c.args.word c.args.seat.now.me.0 c.requires.may.live))
