use Rattle.load_table.proofs.KeptRule.{adds}
use Rattle.load_table.proofs.steps.add.Goals as goal

pub fetch_add-requires : goal.fetch_add-requires
fetch_add-requires c = (c.requires.may.same, c.requires.may.inside, rw (c.requires.may.told, c.requires.may.free) (adds c.args.table.now.table_id.words c.args.table.now.table_id.slots c.args.seat.now.id c.args.word c.args.amount c.args.seat.now.me.0 c.requires.may.inside c.requires.may.live c.requires.wide c.requires.room))
