use Rattle.load_table.proofs.KeptRule.{takes}
use Rattle.load_table.proofs.steps.sub.Goals as goal

pub fetch_sub-requires : goal.fetch_sub-requires
fetch_sub-requires c = (c.requires.may.same, c.requires.may.inside, rw (c.requires.may.told, c.requires.may.free) (takes c.args.table.now.table_id.words c.args.table.now.table_id.slots c.args.seat.now.id c.args.word c.args.amount c.args.seat.now.me.0 c.requires.may.inside c.requires.may.live c.requires.wide c.requires.had))
